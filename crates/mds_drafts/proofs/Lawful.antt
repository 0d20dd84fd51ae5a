-- A batch of drafts that nothing refuses is lawful.
use Rattle.std.proofs.Common.{◌≡◌, ℕ, Bool, true, false, cond, not, ◌&&◌, ◌==◌, List, [], ◌∷◌, map, length, find, Option, Some, None, option_map, is_some, is_none, refl, ap, sym, ◌∙◌}
use Rattle.std.specs.Prelude.{bytes_eq}
use Rattle.std.specs.List.{filter_map, cons_option}
use Rattle.std.specs.Option.{option_or}
use Rattle.std.specs.FinMap.{FinMap, get}
use Rattle.std.proofs.lemmas.Bool.{false≢true, and_from}
use Rattle.std.proofs.lemmas.List.{length-map}
use Rattle.std.proofs.lemmas.Slice.Eq.{bytes_eq-Decides}
use Rattle.mds_policy.specs.Policy.{Policy}
use Rattle.mds_geography.specs.Geography.{Geography}
use Rattle.mds_catalog.specs.Publication.{Publication, policy_ids, geography_ids, are_distinct, is_empty, first_published, missing_geography, missing_predecessor, first_unpublished, fits, is_lawful}
use Rattle.mds_drafts.specs.Drafts.{id_cmp, Drafts, Document, policy, geography, draft_at, has_draft, is_of}
use Rattle.mds_drafts.specs.Entries.{document_of, drafts_in}
use Rattle.mds_drafts.specs.Named.{Named, names_nothing}
use Rattle.mds_drafts.specs.Publishing.{first_undrafted, first_refusal}
use Rattle.mds_drafts.specs.declared.draft.Draft.{Draft}
use Rattle.mds_text.specs.declared.draft_kind.DraftKind.{DraftKind}
use Rattle.mds_text.specs.declared.draft_kind.DraftKind.TheVariants as kinds
use Rattle.mds_drafts.specs.declared.publish.PublishFault.{PublishFault}
use Rattle.mds_drafts.specs.declared.publish.PublishFault.TheVariants as faults
use Rattle.mds_drafts.proofs.Held.{draft_at-cons, draft_at_none}

keyed_step : (b : Bool) (d doc : Document) (o : Option Document) (kind : DraftKind) (id : List ℕ) → is_of d kind id ≡ b → cond b (Some d) o ≡ Some doc → (o ≡ Some doc → is_of doc kind id ≡ true) → is_of doc kind id ≡ true
keyed_step true d doc o kind id e h rest = ap (λ x. is_of x kind id) (let same : doc ≡ d = cc in same) ∙ e
keyed_step false d doc o kind id e h rest = rest h

-- a draft has its own identifier as its key
keyed : (items : List Draft) (kind : DraftKind) (id : List ℕ) (doc : Document) → draft_at (drafts_in items) kind id ≡ Some doc → is_of doc kind id ≡ true
keyed [] kind id doc h = absurd (let no : None ≡ Some doc = sym (draft_at_none kind id) ∙ h in cc)
keyed (d ∷ ds) kind id doc h = keyed_step (is_of (document_of d) kind id) (document_of d) doc (draft_at (drafts_in ds) kind id) kind id refl (sym (draft_at-cons d ds kind id) ∙ h) (keyed ds kind id doc)

none_step : {A : Type 0} (p : A → Bool) (x : A) (xs : List A) (b : Bool) → p x ≡ b → cond b (Some x) (find p xs) ≡ None → (p x ≡ false) × (find p xs ≡ None)
none_step p x xs true e h = absurd (cc)
none_step p x xs false e h = (e, h)

held_of : (b : Bool) → not b ≡ false → b ≡ true
held_of true h = refl
held_of false h = absurd (false≢true (sym h))

policy_ids_step : (items : List Draft) (id : List ℕ) (rest : List Policy) (o : Option Policy) → get (drafts_in items).policies id ≡ o → is_some (option_map policy o) ≡ true → map (λ d. d.id) (cons_option o rest) ≡ id ∷ map (λ d. d.id) rest
policy_ids_step items id rest None e h = absurd (false≢true h)
policy_ids_step items id rest (Some d) e h = ap (λ x. x ∷ map (λ (p : Policy). p.id) rest) ((bytes_eq-Decides d.id id).0 (keyed items kinds.Policy id (policy d) (ap (option_map policy) e)))

-- the drafts found by identifiers have these identifiers
drafted_policy_ids : (items : List Draft) (ids : List (List ℕ)) → find (λ id. not (has_draft (drafts_in items) kinds.Policy id)) ids ≡ None → map (λ d. d.id) (filter_map (get (drafts_in items).policies) ids) ≡ ids
drafted_policy_ids items [] h = refl
drafted_policy_ids items (id ∷ ids) h =
    let parts = none_step (λ x. not (has_draft (drafts_in items) kinds.Policy x)) id ids (not (has_draft (drafts_in items) kinds.Policy id)) refl h in
    policy_ids_step items id (filter_map (get (drafts_in items).policies) ids) (get (drafts_in items).policies id) refl (held_of _ parts.0)
    ∙ ap (λ xs. id ∷ xs) (drafted_policy_ids items ids parts.1)

geography_ids_step : (items : List Draft) (id : List ℕ) (rest : List Geography) (o : Option Geography) → get (drafts_in items).geographies id ≡ o → is_some (option_map geography o) ≡ true → map (λ d. d.id) (cons_option o rest) ≡ id ∷ map (λ d. d.id) rest
geography_ids_step items id rest None e h = absurd (false≢true h)
geography_ids_step items id rest (Some d) e h = ap (λ x. x ∷ map (λ (p : Geography). p.id) rest) ((bytes_eq-Decides d.id id).0 (keyed items kinds.Geography id (geography d) (ap (option_map geography) e)))

drafted_geography_ids : (items : List Draft) (ids : List (List ℕ)) → find (λ id. not (has_draft (drafts_in items) kinds.Geography id)) ids ≡ None → map (λ d. d.id) (filter_map (get (drafts_in items).geographies) ids) ≡ ids
drafted_geography_ids items [] h = refl
drafted_geography_ids items (id ∷ ids) h =
    let parts = none_step (λ x. not (has_draft (drafts_in items) kinds.Geography x)) id ids (not (has_draft (drafts_in items) kinds.Geography id)) refl h in
    geography_ids_step items id (filter_map (get (drafts_in items).geographies) ids) (get (drafts_in items).geographies id) refl (held_of _ parts.0)
    ∙ ap (λ xs. id ∷ xs) (drafted_geography_ids items ids parts.1)

-- neither of two is there
neither : {A B : Type 0} (f : A → B) (o : Option A) (rest : Option B) → option_or (option_map f o) rest ≡ None → (o ≡ None) × (rest ≡ None)
neither f None rest h = (refl, h)
neither f (Some x) rest h = absurd (cc)

neither_id : (o rest : Option (List ℕ)) → option_or o rest ≡ None → (o ≡ None) × (rest ≡ None)
neither_id None rest h = (refl, h)
neither_id (Some x) rest h = absurd (cc)

fits_where : (b : Bool) → cond b None (Some faults.CatalogFull) ≡ None → b ≡ true
fits_where true h = refl
fits_where false h = absurd (cc)

-- drafts that are all there, with distinct identifiers in each list, and that nothing refuses
pub lawful_drafts : (items : List Draft) (named : Named) (publications : List Publication) (p : Publication) → are_distinct named.geographies ≡ true → are_distinct named.policies ≡ true → are_distinct named.withdraw ≡ true → names_nothing named ≡ false → first_undrafted (drafts_in items) named ≡ None → first_refusal publications p ≡ None → p.geographies ≡ filter_map (get (drafts_in items).geographies) named.geographies → p.policies ≡ filter_map (get (drafts_in items).policies) named.policies → p.withdrawn ≡ named.withdraw → is_lawful publications p ≡ true
lawful_drafts items named publications p geographies_differ policies_differ withdraw_differ something drafted accepted geographies policies withdrawn =
    let held = neither_id _ _ drafted in
    let gs : geography_ids p ≡ named.geographies = ap (map (λ (d : Geography). d.id)) geographies ∙ drafted_geography_ids items named.geographies held.0 in
    let ps : policy_ids p ≡ named.policies = ap (map (λ (d : Policy). d.id)) policies ∙ drafted_policy_ids items named.policies held.1 in
    let g_len : length p.geographies ≡ length named.geographies = sym (length-map p.geographies (λ d. d.id)) ∙ ap length gs in
    let p_len : length p.policies ≡ length named.policies = sym (length-map p.policies (λ d. d.id)) ∙ ap length ps in
    let filled : is_empty p ≡ false = ap (λ n. (n == 0) && (length p.policies == 0) && (length p.withdrawn == 0)) g_len ∙ ap (λ n. (length named.geographies == 0) && (n == 0) && (length p.withdrawn == 0)) p_len
    ∙ ap (λ ids. (length named.geographies == 0) && (length named.policies == 0) && (length ids == 0)) withdrawn ∙ something in
    let first = neither faults.Published (first_published publications p) _ accepted in
    let second = neither faults.NoGeography (missing_geography publications p) _ first.1 in
    let third = neither faults.NoPredecessor (missing_predecessor publications p) _ second.1 in
    let fourth = neither faults.NotPublished (first_unpublished publications p.withdrawn) _ third.1 in
    let distinct = and_from _ _ (and_from _ _ (and_from _ _ (ap not filled) (ap are_distinct gs ∙ geographies_differ)) (ap are_distinct ps ∙ policies_differ)) (ap are_distinct withdrawn ∙ withdraw_differ) in
    and_from _ _ (and_from _ _ (and_from _ _ (and_from _ _ (and_from _ _ distinct (ap is_none first.0)) (ap is_none second.0)) (ap is_none third.0)) (ap is_none fourth.0)) (fits_where _ fourth.1)
