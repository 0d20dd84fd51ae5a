-- The index stays right with one more lawful publication.
use Rattle.std.proofs.Common.{◌≡◌, ℕ, ◌+◌, ◌≤◌, nat_le, ◌&&◌, ◌||◌, Bool, true, false, not, cond, List, [], ◌∷◌, ◌++◌, Option, Some, None, is_some, is_none, length, map, find, take, bytes_eq, refl, sym, ap, subst, ◌∙◌, arith}
use Rattle.std.specs.List.{list_any}
use Rattle.std.specs.Option.{option_or, option_map}
use Rattle.std.proofs.Math.Bool.{or-false}
use Rattle.std.proofs.Math.Seq.{take-append_seam}
use Rattle.std.proofs.lemmas.Bool.{and_parts, false≢true}
use Rattle.std.proofs.lemmas.List.{flat_map_more, length-append, length-map}
use Rattle.std.proofs.lemmas.List.Folds.{find-append, list_any-append}
use Rattle.std.proofs.lemmas.Slice.Eq.{bytes_eq-Decides}
use Rattle.std.specs.List.{flat_map}
use Rattle.std.specs.declared.sync.Arc.{Arc}
use Rattle.std.specs.declared.alloc.Global.{Global}
use Rattle.mds_policy.specs.declared.policy.Policy as program
use Rattle.mds_geography.specs.declared.geography.Geography as program'
use Rattle.mds_policy.specs.Policy.{Policy, policy_document}
use Rattle.mds_geography.specs.Geography.{Geography, geography_document}
use Rattle.mds_catalog.specs.declared.batch.Batch.{Batch}
use Rattle.mds_catalog.specs.declared.policy_index.PolicyEntry.{PolicyEntry}
use Rattle.mds_catalog.specs.declared.document_index.DocumentSpot.{DocumentSpot}
use Rattle.mds_catalog.specs.Publication.{Publication, publication_of, publications_in, dated, published_policies, published_geographies, policy_ids, geography_ids, is_among, is_superseded, is_withdrawn, is_policy_published, supersedes, missing_predecessor, first_unpublished, fits, is_lawful}
use Rattle.mds_catalog.specs.Listed.{Ascends, Lists, has, spots_from, spots_in}
use Rattle.mds_catalog.specs.Index.{after_successors, after_withdrawal, fresh, IsKept}
use Rattle.mds_catalog.proofs.Found.{publications_push, length-published_policies-push, length-published_geographies-push, fits_all, lawful_fits}
use Rattle.mds_catalog.proofs.Marked.{entry, is_come, successors_ascend, successors_stay, successors_supersede, successors_withdraw, length-after_successors, withdrawal_ascends, withdrawal_stays, withdrawal_superseded, withdrawal_withdraws, fresh_come, fresh_spots, old_there, some_of}
use Rattle.mds_catalog.proofs.SpotsFound.{length-spots_from, spots_in_push, nowhere_in}

map_map : {A B C : Type 0} (f : A → B) (g : B → C) (xs : List A) → map g (map f xs) ≡ map (λ x. g (f x)) xs
map_map f g [] = refl
map_map f g (x ∷ xs) = ap (λ rest. g (f x) ∷ rest) (map_map f g xs)

none_is : {A : Type 0} (o : Option A) → is_none o ≡ true → o ≡ None
none_is None h = refl
none_is (Some x) h = absurd (false≢true h)

-- where none is missing, each one is there
all_there : (p : List ℕ → Bool) (ids : List (List ℕ)) (id : List ℕ) → find (λ x. not (p x)) ids ≡ None → is_among ids id ≡ true → p id ≡ true
all_there p [] id none among = absurd (false≢true among)
all_there p (x ∷ xs) id none among =
    elim (p x) as (λ b. p x ≡ b → cond (not b) (Some x) (find (λ y. not (p y)) xs) ≡ None → p id ≡ true) [
      | true ↦ λ is rest. elim (bytes_eq x id) as (λ b. bytes_eq x id ≡ b → (b || is_among xs id) ≡ true → p id ≡ true) [
        | true ↦ λ same k. ap p (sym ((bytes_eq-Decides x id).0 same)) ∙ is
        | false ↦ λ other k. all_there p xs id rest k
      ] refl among
      | false ↦ λ is some. absurd (cc)
    ] refl none

-- a published policy has an entry
has_entry : (ps : List Publication) (es : List PolicyEntry) (id : List ℕ) → option_map (λ (e : PolicyEntry). e.spot) (entry es id) ≡ find (has (λ (s : DocumentSpot). s.id) id) (spots_in policy_ids 0 ps) → is_policy_published ps id ≡ true → is_some (entry es id) ≡ true
has_entry ps es id found published =
    sym (some_of (λ (e : PolicyEntry). e.spot) (entry es id)) ∙ ap is_some found
    ∙ elim (find (has (λ (s : DocumentSpot). s.id) id) (spots_in policy_ids 0 ps)) as (λ o. find (has (λ (s : DocumentSpot). s.id) id) (spots_in policy_ids 0 ps) ≡ o → is_some o ≡ true) [
      | Some s ↦ λ is. refl
      | None ↦ λ is. absurd (false≢true (sym (ap is_some (nowhere_in (λ (d : Policy). d.id) id (λ (p : Publication). p.policies) 0 ps is)) ∙ published))
    ] refl

published_push : (ps : List Publication) (p : Publication) → published_policies (ps ++ p ∷ []) ≡ published_policies ps ++ map (dated p.moment) p.policies
published_push ps p = sym (flat_map_more (λ (q : Publication). map (dated q.moment) q.policies) [] ps p)

-- what is superseded with one more publication
superseded_push : (ps : List Publication) (p : Publication) (t : ℕ) (id : List ℕ) → is_superseded (ps ++ p ∷ []) t id ≡ (is_superseded ps t id || list_any (supersedes t id) (map (dated p.moment) p.policies))
superseded_push ps p t id = ap (list_any (supersedes t id)) (published_push ps p) ∙ list_any-append (supersedes t id) (published_policies ps) (map (dated p.moment) p.policies)

-- what is withdrawn with one more publication
withdrawn_push : (ps : List Publication) (p : Publication) (t : ℕ) (id : List ℕ) → is_withdrawn (ps ++ p ∷ []) t id ≡ (is_withdrawn ps t id || nat_le p.moment t && is_among p.withdrawn id)
withdrawn_push ps p t id =
    list_any-append (λ (q : Publication). nat_le q.moment t && is_among q.withdrawn id) ps (p ∷ [])
    ∙ ap (λ b. is_withdrawn ps t id || b) (or-false (nat_le p.moment t && is_among p.withdrawn id))

-- the spots of a kind with one more publication
spots_push : (ids : Publication → List (List ℕ)) (ps : List Publication) (p : Publication) (number : ℕ) (id : List ℕ) → number ≡ length ps → option_or (find (has (λ (s : DocumentSpot). s.id) id) (spots_in ids 0 ps)) (find (has (λ (s : DocumentSpot). s.id) id) (spots_from number 0 (ids p))) ≡ find (has (λ (s : DocumentSpot). s.id) id) (spots_in ids 0 (ps ++ p ∷ []))
spots_push ids ps p number id is =
    ap (λ n. option_or (find (has (λ (s : DocumentSpot). s.id) id) (spots_in ids 0 ps)) (find (has (λ (s : DocumentSpot). s.id) id) (spots_from n 0 (ids p)))) (omega (arith, is))
    ∙ sym (find-append (has (λ (s : DocumentSpot). s.id) id) (spots_in ids 0 ps) (spots_from (0 + length ps) 0 (ids p)))
    ∙ ap (find (has (λ (s : DocumentSpot). s.id) id)) (sym (spots_in_push ids 0 ps p))

module _ (batches : List (Arc Batch Global)) (share : Arc Batch Global) (old listed made : List PolicyEntry) (spots spots' : List DocumentSpot) (policy_count geography_count number : ℕ)
    (kept : IsKept (publications_in batches) old spots policy_count geography_count) (lawful : is_lawful (publications_in batches) (publication_of share.value) ≡ true) (numbered : number ≡ length batches)
    (geographies : Lists (λ (s : DocumentSpot). s.id) spots spots' (spots_from number 0 (map (λ (g : Arc program'.Geography Global). (geography_document g.value).id) share.value.geographies.items)))
    (policies : Lists (λ (e : PolicyEntry). e.spot.id) old listed (map fresh (spots_from number 0 (map (λ (q : Arc program.Policy Global). (policy_document q.value).id) share.value.policies.items))))
    (is_made : made ≡ map (after_withdrawal share.value.moment share.value.withdrawn.items) (after_successors share.value.moment (map (λ (q : Arc program.Policy Global). policy_document q.value) share.value.policies.items) listed)) where
  abbrev ps : List Publication
  ps = publications_in batches

  abbrev p : Publication
  p = publication_of share.value

  abbrev after : List PolicyEntry
  after = after_successors p.moment p.policies listed

  count : number ≡ length ps
  count = numbered ∙ sym (length-map batches (λ (s : Arc Batch Global). publication_of s.value))

  policy_names : map (λ (q : Arc program.Policy Global). (policy_document q.value).id) share.value.policies.items ≡ policy_ids p
  policy_names = sym (map_map (λ (q : Arc program.Policy Global). policy_document q.value) (λ (d : Policy). d.id) share.value.policies.items)

  geography_names : map (λ (g : Arc program'.Geography Global). (geography_document g.value).id) share.value.geographies.items ≡ geography_ids p
  geography_names = sym (map_map (λ (g : Arc program'.Geography Global). geography_document g.value) (λ (d : Geography). d.id) share.value.geographies.items)

  entered : (id : List ℕ) → is_policy_published ps id ≡ true → is_some (entry listed id) ≡ true
  entered id published = old_there old listed _ policies id (has_entry ps old id (kept.policies_found id) published)

  withdrawn_there : (id : List ℕ) → is_among p.withdrawn id ≡ true → is_some (entry listed id) ≡ true
  withdrawn_there id among =
      let none = none_is (first_unpublished ps p.withdrawn) (and_parts _ (is_none (first_unpublished ps p.withdrawn)) (and_parts _ (fits ps p) lawful).0).1 in
      entered id (all_there (is_policy_published ps) p.withdrawn id none among)

  predecessors_there : (id : List ℕ) → is_among (flat_map (λ (d : Policy). d.previous) p.policies) id ≡ true → is_some (entry listed id) ≡ true
  predecessors_there id among =
      let none = none_is (missing_predecessor ps p) (and_parts _ (is_none (missing_predecessor ps p)) (and_parts _ (is_none (first_unpublished ps p.withdrawn)) (and_parts _ (fits ps p) lawful).0).0).1 in
      entered id (all_there (is_policy_published ps) (flat_map (λ (d : Policy). d.previous) p.policies) id none among)

  there_after : (id : List ℕ) → is_some (entry listed id) ≡ true → is_some (entry after id) ≡ true
  there_after id there =
      sym (some_of (λ (e : PolicyEntry). e.spot) (entry after id)) ∙ ap is_some (successors_stay p.moment p.policies listed id) ∙ some_of (λ (e : PolicyEntry). e.spot) (entry listed id) ∙ there

  found : (id : List ℕ) → option_map (λ (e : PolicyEntry). e.spot) (entry made id) ≡ find (has (λ (s : DocumentSpot). s.id) id) (spots_in policy_ids 0 (ps ++ p ∷ []))
  found id =
      ap (λ es. option_map (λ (e : PolicyEntry). e.spot) (entry es id)) is_made
      ∙ withdrawal_stays p.moment p.withdrawn after id ∙ successors_stay p.moment p.policies listed id
      ∙ fresh_spots old listed (spots_from number 0 _) policies id
      ∙ ap (λ names. option_or (option_map (λ (e : PolicyEntry). e.spot) (entry old id)) (find (has (λ (s : DocumentSpot). s.id) id) (spots_from number 0 names))) policy_names
      ∙ ap (λ o. option_or o (find (has (λ (s : DocumentSpot). s.id) id) (spots_from number 0 (policy_ids p)))) (kept.policies_found id)
      ∙ spots_push policy_ids ps p number id count

  found_geography : (id : List ℕ) → find (has (λ (s : DocumentSpot). s.id) id) spots' ≡ find (has (λ (s : DocumentSpot). s.id) id) (spots_in geography_ids 0 (ps ++ p ∷ []))
  found_geography id =
      geographies.found id
      ∙ ap (λ names. option_or (find (has (λ (s : DocumentSpot). s.id) id) spots) (find (has (λ (s : DocumentSpot). s.id) id) (spots_from number 0 names))) geography_names
      ∙ ap (λ o. option_or o (find (has (λ (s : DocumentSpot). s.id) id) (spots_from number 0 (geography_ids p)))) (kept.geographies_found id)
      ∙ spots_push geography_ids ps p number id count

  superseded : (t : ℕ) (id : List ℕ) → is_come (λ e. e.superseded) made t id ≡ is_superseded (ps ++ p ∷ []) t id
  superseded t id =
      ap (λ es. is_come (λ e. e.superseded) es t id) is_made
      ∙ withdrawal_superseded p.moment p.withdrawn after t id
      ∙ successors_supersede p.moment p.policies listed t id (predecessors_there id)
      ∙ ap (λ b. b || list_any (supersedes t id) (map (dated p.moment) p.policies)) (fresh_come (λ e. e.superseded) (λ s. refl) old listed (spots_from number 0 _) policies t id ∙ kept.superseded t id)
      ∙ sym (superseded_push ps p t id)

  withdrawn : (t : ℕ) (id : List ℕ) → is_come (λ e. e.withdrawn) made t id ≡ is_withdrawn (ps ++ p ∷ []) t id
  withdrawn t id =
      ap (λ es. is_come (λ e. e.withdrawn) es t id) is_made
      ∙ withdrawal_withdraws p.moment p.withdrawn after t id (λ among. there_after id (withdrawn_there id among))
      ∙ ap (λ b. b || nat_le p.moment t && is_among p.withdrawn id) (successors_withdraw p.moment p.policies listed t id ∙ fresh_come (λ e. e.withdrawn) (λ s. refl) old listed (spots_from number 0 _) policies t id ∙ kept.withdrawn t id)
      ∙ sym (withdrawn_push ps p t id)

  made_length : length made ≤ length old + length share.value.policies.items
  made_length =
      omega (
        arith,
        ap length is_made,
        length-map after (after_withdrawal p.moment p.withdrawn),
        length-after_successors p.moment p.policies listed,
        policies.few,
        length-map (spots_from number 0 (policy_ids p)) fresh,
        ap (λ names. length (map fresh (spots_from number 0 names))) policy_names,
        length-spots_from number 0 (policy_ids p),
        length-map p.policies (λ (d : Policy). d.id),
        length-map share.value.policies.items (λ (q : Arc program.Policy Global). policy_document q.value),
      )

  spots_length : length spots' ≤ length spots + length share.value.geographies.items
  spots_length =
      omega (
        arith,
        geographies.few,
        ap (λ names. length (spots_from number 0 names)) geography_names,
        length-spots_from number 0 (geography_ids p),
        length-map p.geographies (λ (d : Geography). d.id),
        length-map share.value.geographies.items (λ (g : Arc program'.Geography Global). geography_document g.value),
      )

  -- the invariant of the index with one more lawful publication
  pub kept_push : (batches' : List (Arc Batch Global)) (n m : ℕ) → batches' ≡ batches ++ share ∷ [] → n ≡ length share.value.policies.items → m ≡ length share.value.geographies.items → IsKept (publications_in batches') made spots' (policy_count + n) (geography_count + m)
  kept_push batches' n m pushed ns ms =
      let all : publications_in batches' ≡ ps ++ p ∷ [] = ap publications_in pushed ∙ publications_push batches share in
      let room = fits_all ps p (lawful_fits ps p lawful) in
      let pn = length-map share.value.policies.items (λ (q : Arc program.Policy Global). policy_document q.value) in
      let gn = length-map share.value.geographies.items (λ (g : Arc program'.Geography Global). geography_document g.value) in
      record {
        policies_ascend = subst (Ascends (λ (e : PolicyEntry). e.spot.id)) (sym is_made) (withdrawal_ascends p.moment p.withdrawn after (successors_ascend p.moment p.policies listed policies.ascends));
        policies_found = λ id. found id ∙ ap (λ qs. find (has (λ (s : DocumentSpot). s.id) id) (spots_in policy_ids 0 qs)) (sym all);
        superseded = λ t id. superseded t id ∙ ap (λ qs. is_superseded qs t id) (sym all);
        withdrawn = λ t id. withdrawn t id ∙ ap (λ qs. is_withdrawn qs t id) (sym all);
        geographies_ascend = geographies.ascends;
        geographies_found = λ id. found_geography id ∙ ap (λ qs. find (has (λ (s : DocumentSpot). s.id) id) (spots_in geography_ids 0 qs)) (sym all);
        policies_counted = omega (arith, kept.policies_counted, ns, pn, length-published_policies-push ps p, ap (λ qs. length (published_policies qs)) all);
        geographies_counted = omega (arith, kept.geographies_counted, ms, gn, length-published_geographies-push ps p, ap (λ qs. length (published_geographies qs)) all);
        few_policies = omega (arith, made_length, kept.few_policies, ns);
        few_geographies = omega (arith, spots_length, kept.few_geographies, ms);
        most_policies = omega (arith, room.0, kept.policies_counted, ns, pn);
        most_geographies = omega (arith, room.1, kept.geographies_counted, ms, gn);
        few_publications = omega (arith, room.2, length-append ps (p ∷ []), ap length all);
      }

-- a list that was written back whole
pub written_back : {X : Type 0} (n : ℕ) (xs rest : List X) → n ≡ length xs → take n (xs ++ rest) ≡ xs
written_back n xs rest h = ap (λ k. take k (xs ++ rest)) h ∙ take-append_seam xs rest
