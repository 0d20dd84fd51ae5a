-- Clients' payloads in a log, and their numbers.
use Rattle.std.proofs.Common.{◌≡◌, ℕ, ◌+◌, ◌<◌, ◌==◌, Bool, true, false, cond, List, [], ◌∷◌, ◌++◌, length, filter, slice_get, slice_set, slice_index_or, replicate, Some, refl, ap, sym, ◌∙◌, subst, arith, length-append, zero, suc, inl, inr}
use Rattle.std.proofs.lemmas.List.{append-nil}
use Rattle.std.proofs.lemmas.List.Elements.{filter-append}
use Rattle.std.proofs.lemmas.Bool.{eq-eqb, ne_eqb, cases_eq}
use Rattle.std.proofs.lemmas.Option.{same_Some, slice_get_read}
use mathlib.Core.List.{IsPrefix}
use Rattle.journal_commit.specs.Clients.{AreCounts, AreOf, GoesOnBy, Own, of_client}
use Rattle.journal_commit.specs.Durable.{chosen}
use Rattle.journal_commit.proofs.Fronts.{prefix_trans, prefix_whole}

set_same : (xs : List ℕ) (k v n : ℕ) → slice_get (slice_set xs k v) k ≡ Some n → n ≡ v
set_same [] k v n at = absurd cc
set_same (x ∷ xs) zero v n at = same_Some n v (sym at)
set_same (x ∷ xs) (suc k) v n at = set_same xs k v n at

set_other : (xs : List ℕ) (k i v : ℕ) → (k ≡ i → ⊥) → slice_get (slice_set xs k v) i ≡ slice_get xs i
set_other [] k i v apart = refl
set_other (x ∷ xs) zero zero v apart = absurd (apart refl)
set_other (x ∷ xs) zero (suc i) v apart = refl
set_other (x ∷ xs) (suc k) zero v apart = refl
set_other (x ∷ xs) (suc k) (suc i) v apart = set_other xs k i v (λ e. apart (ap suc e))

zeros : (n i count : ℕ) → slice_get (replicate n 0) i ≡ Some count → count ≡ 0
zeros zero i count at = absurd cc
zeros (suc n) zero count at = same_Some count 0 (sym at)
zeros (suc n) (suc i) count at = zeros n i count at

module _ (client_of : List ℕ → ℕ) where
  -- no client has a payload in an empty log
  pub no_counts : (counts : List ℕ) (texts : List (List ℕ)) (n : ℕ) → counts ≡ replicate n 0 → texts ≡ [] → AreCounts client_of counts texts
  no_counts counts texts n are none =
      subst (λ (xs : List ℕ). AreCounts client_of xs texts) (sym are) (subst (AreCounts client_of (replicate n 0)) (sym none) (record { each = zeros n }))

  -- what is read of the table
  pub counted_at : (counts : List ℕ) (texts : List (List ℕ)) (client n : ℕ) → AreCounts client_of counts texts → client < length counts
      → n ≡ slice_index_or counts client n → n ≡ length (of_client client_of client texts)
  counted_at counts texts client n are within read = are.each client n (slice_get_read counts (length counts) client n refl within read)

  -- one more payload of this client
  of_own : (client : ℕ) (texts : List (List ℕ)) (text : List ℕ) → client_of text ≡ client
      → of_client client_of client (texts ++ text ∷ []) ≡ of_client client_of client texts ++ text ∷ []
  of_own client texts text is =
      filter-append (λ (t : List ℕ). client_of t == client) texts (text ∷ [])
      ∙ ap (λ (b : Bool). of_client client_of client texts ++ cond b (text ∷ []) []) (eq-eqb (client_of text) client is)

  -- one more payload of another
  of_other : (client : ℕ) (texts : List (List ℕ)) (text : List ℕ) → (client_of text ≡ client → ⊥)
      → of_client client_of client (texts ++ text ∷ []) ≡ of_client client_of client texts
  of_other client texts text apart =
      filter-append (λ (t : List ℕ). client_of t == client) texts (text ∷ [])
      ∙ ap (λ (b : Bool). of_client client_of client texts ++ cond b (text ∷ []) []) (ne_eqb (client_of text) client apart)
      ∙ append-nil (of_client client_of client texts)

  one_longer : (xs ys : List (List ℕ)) (x : List ℕ) (n : ℕ) → ys ≡ xs ++ x ∷ [] → n ≡ length xs → n + 1 ≡ length ys
  one_longer xs ys x n is long = omega (arith, ap length is, length-append xs (x ∷ []), long)

  count_same : (counts : List ℕ) (texts : List (List ℕ)) (client n : ℕ) (text : List ℕ) → client_of text ≡ client
      → n ≡ length (of_client client_of client texts) → (i count : ℕ) → client ≡ i → slice_get (slice_set counts client (n + 1)) i ≡ Some count
      → count ≡ length (of_client client_of i (texts ++ text ∷ []))
  count_same counts texts client n text is own i count same at =
      let there : count ≡ n + 1 = set_same counts client (n + 1) count (ap (slice_get (slice_set counts client (n + 1))) same ∙ at) in
      let long : n + 1 ≡ length (of_client client_of client (texts ++ text ∷ [])) =
      one_longer (of_client client_of client texts) (of_client client_of client (texts ++ text ∷ [])) text n (of_own client texts text is) own in
      subst (λ (k : ℕ). count ≡ length (of_client client_of k (texts ++ text ∷ []))) same (there ∙ long)

  count_more : (counts : List ℕ) (texts : List (List ℕ)) (client n : ℕ) (text : List ℕ) → client_of text ≡ client → AreCounts client_of counts texts
      → n ≡ length (of_client client_of client texts) → (i count : ℕ) → slice_get (slice_set counts client (n + 1)) i ≡ Some count
      → count ≡ length (of_client client_of i (texts ++ text ∷ []))
  count_more counts texts client n text is are own i count at = elim (cases_eq client i) [
    | inl same ↦ count_same counts texts client n text is own i count same at
    | inr apart ↦ are.each i count (sym (set_other counts client i (n + 1) apart) ∙ at)
        ∙ ap length (sym (of_other i texts text (λ e. apart (sym is ∙ e))))
  ]

  -- the table after one more payload of this client
  pub counts_more : (counts after : List ℕ) (texts all : List (List ℕ)) (client n : ℕ) (text : List ℕ) → client_of text ≡ client
      → AreCounts client_of counts texts → n ≡ length (of_client client_of client texts) → after ≡ slice_set counts client (n + 1)
      → all ≡ texts ++ text ∷ [] → AreCounts client_of after all
  counts_more counts after texts all client n text is are own set more =
      subst (λ (xs : List ℕ). AreCounts client_of xs all) (sym set)
      (subst (AreCounts client_of (slice_set counts client (n + 1))) (sym more) (record { each = count_more counts texts client n text is are own }))

  of_prefix : (client : ℕ) (xs ys : List (List ℕ)) → IsPrefix xs ys → IsPrefix (of_client client_of client xs) (of_client client_of client ys)
  of_prefix client xs ys pre =
      let mine : List ℕ → Bool = λ t. client_of t == client in
      (filter mine pre.0, sym (filter-append mine xs pre.0) ∙ ap (filter mine) pre.1)

  -- a client knows all its payloads where it knows as many of a prefix as there are in all
  pub just : (own : Own) (all : List (List ℕ)) (n m : ℕ) → IsPrefix own.texts all → n ≡ length (of_client client_of own.client own.texts)
      → m ≡ length (of_client client_of own.client all) → m ≡ n → GoesOnBy client_of own [] all
  just own all n m pre known its same =
      let mine = of_client client_of own.client own.texts in
      let theirs = of_client client_of own.client all in
      record {
        begins = pre;
        records = sym (prefix_whole mine theirs (of_prefix own.client own.texts all pre) (omega (arith, known, its, same))) ∙ sym (append-nil mine);
      }

  -- payloads of one client are all its payloads among them
  all_of : (client : ℕ) (texts : List (List ℕ)) → AreOf client_of client texts → of_client client_of client texts ≡ texts
  all_of client [] are = refl
  all_of client (text ∷ texts) are =
      ap (λ (b : Bool). cond b (text ∷ of_client client_of client texts) (of_client client_of client texts)) (eq-eqb (client_of text) client are.0)
      ∙ ap (λ (xs : List (List ℕ)). text ∷ xs) (all_of client texts are.1)

  by_flag : (client : ℕ) (flag : Bool) (text : List ℕ) (texts : List (List ℕ)) → client_of text ≡ client → AreOf client_of client texts
      → AreOf client_of client (cond flag (text ∷ texts) texts)
  by_flag client true text texts is are = (is, are)
  by_flag client false text texts is are = are

  chosen_are : (client : ℕ) (flags : List Bool) (texts : List (List ℕ)) → AreOf client_of client texts → AreOf client_of client (chosen flags texts)
  chosen_are client [] texts are = tt
  chosen_are client (flag ∷ flags) [] are = tt
  chosen_are client (flag ∷ flags) (text ∷ texts) are = by_flag client flag text (chosen flags texts) are.0 (chosen_are client flags texts are.1)

  goes_on : (own : Own) (before more stamp : List (List ℕ)) → AreOf client_of own.client more → GoesOnBy client_of own [] before
      → stamp ≡ before ++ more → GoesOnBy client_of own more stamp
  goes_on own before more stamp are was is =
      let mine : List ℕ → Bool = λ t. client_of t == own.client in
      record {
        begins = prefix_trans own.texts before stamp was.begins (more, sym is);
        records =
            ap (filter mine) is ∙ filter-append mine before more ∙ ap (λ (xs : List (List ℕ)). xs ++ filter mine more) was.records
            ∙ ap (λ (xs : List (List ℕ)). xs ++ filter mine more) (append-nil (filter mine own.texts))
            ∙ ap (λ (xs : List (List ℕ)). filter mine own.texts ++ xs) (all_of own.client more are);
      }

  -- one more payload of a client behind those that it knows
  pub one_more : (own : Own) (text : List ℕ) (before stamp : List (List ℕ)) → client_of text ≡ own.client → GoesOnBy client_of own [] before
      → stamp ≡ before ++ text ∷ [] → GoesOnBy client_of own (text ∷ []) stamp
  one_more own text before stamp is was more = goes_on own before (text ∷ []) stamp (is, tt) was more

  -- payloads of a client that were chosen, behind those that it knows
  pub chosen_more : (own : Own) (flags : List Bool) (texts before stamp : List (List ℕ)) → AreOf client_of own.client texts
      → GoesOnBy client_of own [] before → stamp ≡ before ++ chosen flags texts → GoesOnBy client_of own (chosen flags texts) stamp
  chosen_more own flags texts before stamp are was more =
      goes_on own before (chosen flags texts) stamp (chosen_are own.client flags texts are) was more
