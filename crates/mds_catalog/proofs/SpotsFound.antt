-- Where published documents are.
use Rattle.std.proofs.Common.{◌≡◌, ℕ, suc, ◌+◌, ◌<◌, true, false, cond, List, [], ◌∷◌, ◌++◌, length, map, find, get_or, take, Some, None, bytes_eq, refl, sym, ap, subst, ◌∙◌, arith}
use Rattle.std.specs.Option.{option_or, option_map, option_map_or}
use Rattle.std.specs.List.{flat_map}
use Rattle.std.proofs.lemmas.List.{length-map, length-take-le, append-nil, append_assoc, map_more}
use Rattle.std.proofs.lemmas.List.Folds.{find-append}
use Rattle.mds_catalog.specs.declared.document_index.DocumentSpot.{DocumentSpot}
use Rattle.std.proofs.Math.ListN.{get_or-map}
use Rattle.std.specs.declared.sync.Arc.{Arc}
use Rattle.std.specs.declared.alloc.Global.{Global}
use Rattle.mds_catalog.specs.declared.batch.Batch.{Batch}
use Rattle.mds_catalog.specs.Publication.{Publication, Published, dated, publication_of, publications_in}
use Rattle.mds_catalog.specs.Listed.{has, spots_from, spots_in}
use Rattle.mds_catalog.proofs.Found.{find-dated, find_early, find_late}
use Rattle.mds_catalog.proofs.Ordered.{next, first}

pub length-spots_from : (batch place : ℕ) (ids : List (List ℕ)) → length (spots_from batch place ids) ≡ length ids
length-spots_from batch place [] = refl
length-spots_from batch place (id ∷ ids) = ap suc (length-spots_from batch (place + 1) ids)

spots_push : (batch place : ℕ) (ids : List (List ℕ)) (id : List ℕ) → spots_from batch place (ids ++ id ∷ []) ≡ spots_from batch place ids ++ record { id = id; batch = batch; place = place + length ids } ∷ []
spots_push batch place [] id = ap (λ n. record { id = id; batch = batch; place = n } ∷ []) (omega arith)
spots_push batch place (x ∷ ids) id =
    ap (λ ss. record { id = x; batch = batch; place = place } ∷ ss) (spots_push batch (place + 1) ids id
    ∙ ap (λ n. spots_from batch (place + 1) ids ++ record { id = id; batch = batch; place = n } ∷ []) (omega arith))

-- one more document of a batch
pub spots_more : {S : Type 0} (f : S → List ℕ) (batch : ℕ) (xs : List S) (i : ℕ) (x : S) (id : List ℕ) → i < length xs → x ≡ get_or xs i x → id ≡ f x → spots_from batch 0 (map f (take (i + 1) xs)) ≡ spots_from batch 0 (map f (take i xs)) ++ record { id = id; batch = batch; place = i } ∷ []
spots_more f batch xs i x id within is named =
    ap (spots_from batch 0) (map_more f xs i x within ∙ ap (λ y. map f (take i xs) ++ y ∷ []) (ap f (sym is) ∙ sym named))
    ∙ spots_push batch 0 (map f (take i xs)) id
    ∙ ap (λ n. spots_from batch 0 (map f (take i xs)) ++ record { id = id; batch = batch; place = n } ∷ []) (omega (arith, length-map (take i xs) f, length-take-le i xs (omega arith)))

-- one more publication
pub spots_in_push : (ids : Publication → List (List ℕ)) (batch : ℕ) (ps : List Publication) (p : Publication) → spots_in ids batch (ps ++ p ∷ []) ≡ spots_in ids batch ps ++ spots_from (batch + length ps) 0 (ids p)
spots_in_push ids batch [] p = append-nil (spots_from batch 0 (ids p)) ∙ ap (λ n. spots_from n 0 (ids p)) (omega arith)
spots_in_push ids batch (q ∷ ps) p =
    ap (λ ss. spots_from batch 0 (ids q) ++ ss) (spots_in_push ids (batch + 1) ps p ∙ ap (λ n. spots_in ids (batch + 1) ps ++ spots_from n 0 (ids p)) (omega arith))
    ∙ sym (append_assoc (spots_from batch 0 (ids q)) (spots_in ids (batch + 1) ps) (spots_from (batch + suc (length ps)) 0 (ids p)))

module _ {A : Type 0} (id : A → List ℕ) (key : List ℕ) where
  -- the document of a batch that a spot refers to
  record Stands (batch place : ℕ) (ds : List A) (s : DocumentSpot) : Type 0 where
    pub at : ℕ
    pub in_batch : s.batch ≡ batch
    pub is_place : s.place ≡ place + at
    pub within : at < length ds
    pub is : (d : A) → find (has id key) ds ≡ Some (get_or ds at d)

  stands : (batch place : ℕ) (ds : List A) (s : DocumentSpot) → find (has (λ (s : DocumentSpot). s.id) key) (spots_from batch place (map id ds)) ≡ Some s → Stands batch place ds s
  stands batch place [] s is = absurd (cc)
  stands batch place (d ∷ ds) s is =
      elim (bytes_eq (id d) key) as (λ b. bytes_eq (id d) key ≡ b → cond b (Some (record { id = id d; batch = batch; place = place })) (find (has (λ (s : DocumentSpot). s.id) key) (spots_from batch (place + 1) (map id ds))) ≡ Some s → Stands batch place (d ∷ ds) s) [
        | true ↦ λ same e. record {
          at = 0;
          in_batch = ap (λ o. option_map_or (λ (s : DocumentSpot). s.batch) o batch) (sym e);
          is_place = ap (λ o. option_map_or (λ (s : DocumentSpot). s.place) o place) (sym e) ∙ omega arith;
          within = omega arith;
          is = λ x. first id key d ds same;
        }
        | false ↦ λ other e.
            let r = stands batch (place + 1) ds s e in
            record {
              at = suc r.at;
              in_batch = r.in_batch;
              is_place = omega (arith, r.is_place);
              within = omega (arith, r.within);
              is = λ x. next id key d ds other ∙ r.is x;
            }
      ] refl is

  nowhere : (batch place : ℕ) (ds : List A) → find (has (λ (s : DocumentSpot). s.id) key) (spots_from batch place (map id ds)) ≡ None → find (has id key) ds ≡ None
  nowhere batch place [] is = refl
  nowhere batch place (d ∷ ds) is =
      elim (bytes_eq (id d) key) as (λ b. bytes_eq (id d) key ≡ b → cond b (Some (record { id = id d; batch = batch; place = place })) (find (has (λ (s : DocumentSpot). s.id) key) (spots_from batch (place + 1) (map id ds))) ≡ None → find (has id key) (d ∷ ds) ≡ None) [
        | true ↦ λ same e. absurd (cc)
        | false ↦ λ other e. next id key d ds other ∙ nowhere batch (place + 1) ds e
      ] refl is

  module _ (documents : Publication → List A) where
    abbrev published : List Publication → List (Published A)
    published ps = flat_map (λ p. map (dated p.moment) (documents p)) ps

    abbrev spots : ℕ → List Publication → List DocumentSpot
    spots batch ps = spots_in (λ p. map id (documents p)) batch ps

    -- the published document that a spot refers to
    pub record StandsIn (batch : ℕ) (ps : List Publication) (s : DocumentSpot) : Type 0 where
      pub at : ℕ
      pub is_batch : s.batch ≡ batch + at
      pub within : at < length ps
      pub place : (p : Publication) → s.place < length (documents (get_or ps at p))
      pub is : (p : Publication) (d : A) → find (λ q. bytes_eq (id q.document) key) (published ps) ≡ Some (dated (get_or ps at p).moment (get_or (documents (get_or ps at p)) s.place d))

    in_first : (batch : ℕ) (p : Publication) (ps : List Publication) (s : DocumentSpot) → Stands batch 0 (documents p) s → StandsIn batch (p ∷ ps) s
    in_first batch p ps s r = record {
      at = 0;
      is_batch = r.in_batch ∙ omega arith;
      within = omega arith;
      place = λ q. omega (arith, r.within, r.is_place);
      is = λ q d. find_early (λ q. bytes_eq (id q.document) key) (map (dated p.moment) (documents p)) (published ps) (dated p.moment (get_or (documents p) r.at d))
          (find-dated (has id key) p.moment (documents p) ∙ ap (option_map (dated p.moment)) (r.is d))
          ∙ ap (λ n. Some (dated p.moment (get_or (documents p) n d))) (omega (arith, r.is_place));
    }

    none_first : (p : Publication) (ps : List Publication) → find (has id key) (documents p) ≡ None → find (λ q. bytes_eq (id q.document) key) (published (p ∷ ps)) ≡ find (λ q. bytes_eq (id q.document) key) (published ps)
    none_first p ps none =
        find_late (λ q. bytes_eq (id q.document) key) (map (dated p.moment) (documents p)) (published ps) (find-dated (has id key) p.moment (documents p) ∙ ap (option_map (dated p.moment)) none)

    in_rest : (batch : ℕ) (p : Publication) (ps : List Publication) (s : DocumentSpot) → find (has id key) (documents p) ≡ None → StandsIn (batch + 1) ps s → StandsIn batch (p ∷ ps) s
    in_rest batch p ps s none r = record {
      at = suc r.at;
      is_batch = omega (arith, r.is_batch);
      within = omega (arith, r.within);
      place = λ q. r.place q;
      is = λ q d. none_first p ps none ∙ r.is q d;
    }

    pub stands_in : (batch : ℕ) (ps : List Publication) (s : DocumentSpot) → find (has (λ (s : DocumentSpot). s.id) key) (spots batch ps) ≡ Some s → StandsIn batch ps s
    stands_in batch [] s is = absurd (cc)
    stands_in batch (p ∷ ps) s is =
        elim (find (has (λ (s : DocumentSpot). s.id) key) (spots_from batch 0 (map id (documents p)))) as (λ o. find (has (λ (s : DocumentSpot). s.id) key) (spots_from batch 0 (map id (documents p))) ≡ o → option_or o (find (has (λ (s : DocumentSpot). s.id) key) (spots (batch + 1) ps)) ≡ Some s → StandsIn batch (p ∷ ps) s) [
          | Some s' ↦ λ here e. in_first batch p ps s (stands batch 0 (documents p) s (here ∙ e))
          | None ↦ λ here e. in_rest batch p ps s (nowhere batch 0 (documents p) here) (stands_in (batch + 1) ps s e)
        ] refl (sym (find-append (has (λ (s : DocumentSpot). s.id) key) (spots_from batch 0 (map id (documents p))) (spots (batch + 1) ps)) ∙ is)

    pub nowhere_in : (batch : ℕ) (ps : List Publication) → find (has (λ (s : DocumentSpot). s.id) key) (spots batch ps) ≡ None → find (λ q. bytes_eq (id q.document) key) (published ps) ≡ None
    nowhere_in batch [] is = refl
    nowhere_in batch (p ∷ ps) is =
        elim (find (has (λ (s : DocumentSpot). s.id) key) (spots_from batch 0 (map id (documents p)))) as (λ o. find (has (λ (s : DocumentSpot). s.id) key) (spots_from batch 0 (map id (documents p))) ≡ o → option_or o (find (has (λ (s : DocumentSpot). s.id) key) (spots (batch + 1) ps)) ≡ None → find (λ q. bytes_eq (id q.document) key) (published (p ∷ ps)) ≡ None) [
          | Some s' ↦ λ here e. absurd (cc)
          | None ↦ λ here e. none_first p ps (nowhere batch 0 (documents p) here) ∙ nowhere_in (batch + 1) ps e
        ] refl (sym (find-append (has (λ (s : DocumentSpot). s.id) key) (spots_from batch 0 (map id (documents p))) (spots (batch + 1) ps)) ∙ is)

    -- the published document that a spot of shared batches refers to, seen from its batch
    pub placed : (batches : List (Arc Batch Global)) (s : DocumentSpot) (x : Arc Batch Global) → x ≡ get_or batches s.batch x → find (has (λ (s : DocumentSpot). s.id) key) (spots 0 (publications_in batches)) ≡ Some s
        → record {
          place : s.place < length (documents (publication_of x.value));
          is : (d : A) → find (λ q. bytes_eq (id q.document) key) (published (publications_in batches)) ≡ Some (dated x.value.moment (get_or (documents (publication_of x.value)) s.place d));
        }
    placed batches s x is found =
        let st = stands_in 0 (publications_in batches) s found in
        let here : get_or (publications_in batches) st.at (publication_of x.value) ≡ publication_of x.value =
        get_or-map (λ (y : Arc Batch Global). publication_of y.value) batches st.at x ∙ ap (λ n. publication_of (get_or batches n x).value) (omega (arith, st.is_batch)) ∙ ap (λ (y : Arc Batch Global). publication_of y.value) (sym is) in
        record {
          place = subst (λ q. s.place < length (documents q)) here (st.place (publication_of x.value));
          is = λ d. st.is (publication_of x.value) d ∙ ap (λ q. Some (dated q.moment (get_or (documents q) s.place d))) here;
        }

    pub within : (batches : List (Arc Batch Global)) (s : DocumentSpot) → find (has (λ (s : DocumentSpot). s.id) key) (spots 0 (publications_in batches)) ≡ Some s → s.batch < length batches
    within batches s found =
        let st = stands_in 0 (publications_in batches) s found in
        omega (arith, st.is_batch, st.within, length-map batches (λ (y : Arc Batch Global). publication_of y.value))
