-- Where steps lead to a list of a head and the texts of items, each step a compaction of such a list, or none.
use Rattle.std.proofs.Common.{◌≡◌, ℕ, List, [], ◌∷◌, ◌++◌, map, length, take, drop, zero, suc, refl, sym, ap, subst, ◌∙◌, inl, inr}
use Rattle.std.specs.List.{AllByRecursion}
use Rattle.std.proofs.lemmas.List.{map-append}
use Rattle.journal_swap.specs.Leading.{LeadsBeside, LeadsBy, Leads, NoCollision, NoCollisionBy, HasNoCollision}

cons_parts : {A : Type 0} (a b : A) (r s : List A) → a ∷ r ≡ b ∷ s → (a ≡ b) × (r ≡ s)
cons_parts a b r s e = (cc, cc)

-- ---- what holds of each item

pub each_of_both : {E : Type 0} (Good : E → Type 0) (front rest : List E) → AllByRecursion Good front → AllByRecursion Good rest → AllByRecursion Good (front ++ rest)
each_of_both Good [] rest f r = r
each_of_both Good (e ∷ front) rest f r = (f.0, each_of_both Good front rest f.1 r)

pub each_of_first : {E : Type 0} (Good : E → Type 0) (n : ℕ) (items : List E) → AllByRecursion Good items → AllByRecursion Good (take n items)
each_of_first Good zero items all = tt
each_of_first Good (suc n) [] all = tt
each_of_first Good (suc n) (e ∷ items) all = (all.0, each_of_first Good n items all.1)

pub each_of_last : {E : Type 0} (Good : E → Type 0) (n : ℕ) (items : List E) → AllByRecursion Good items → AllByRecursion Good (drop n items)
each_of_last Good zero items all = all
each_of_last Good (suc n) [] all = tt
each_of_last Good (suc n) (e ∷ items) all = each_of_last Good n items all.1

-- ---- steps

module _ {E : Type 0} (text : E → List ℕ) (thin : List E → List E) (Good : E → Type 0) where
  -- the one list is the compacted form of the other
  pub record IsFound (one other : List (List ℕ)) : Type 0 where
    pub head : List ℕ
    pub items : List E
    pub each : AllByRecursion Good items
    pub is_other : other ≡ head ∷ map text items
    pub is_one : one ≡ head ∷ map text (thin items)

  -- the first so many items are compacted
  abbrev pub compacted : ℕ → List E → List E
  compacted n items = thin (take n items) ++ drop n items

  abbrev pub compacted_by : List ℕ → List E → List E
  compacted_by [] items = items
  compacted_by (n ∷ counts) items = compacted_by counts (compacted n items)

  by_one_more : (counts : List ℕ) (n : ℕ) (items : List E) → compacted_by (counts ++ n ∷ []) items ≡ compacted n (compacted_by counts items)
  by_one_more [] n items = refl
  by_one_more (m ∷ counts) n items = by_one_more counts n (compacted m items)

  -- the list is the head and the texts of the items, of which some were compacted
  pub record Comes (one : List (List ℕ)) (head : List ℕ) (items : List E) : Type 0 where
    pub counts : List ℕ
    pub is : one ≡ head ∷ map text (compacted_by counts items)
    pub each : AllByRecursion Good (compacted_by counts items)

  module _ (alone : (a b : E) → Good a → Good b → text a ≡ text b → a ≡ b) (stay : (items : List E) → AllByRecursion Good items → AllByRecursion Good (thin items)) where
    -- the items whose texts a list begins with are its first ones
    split : (front items : List E) (rest : List (List ℕ)) → AllByRecursion Good front → AllByRecursion Good items → map text items ≡ map text front ++ rest
        → (take (length front) items ≡ front) × (rest ≡ map text (drop (length front) items))
    split [] items rest f i e = (refl, sym e)
    split (a ∷ front) [] rest f i e = absurd cc
    split (a ∷ front) (b ∷ items) rest f i e =
        let p = cons_parts (text b) (text a) (map text items) (map text front ++ rest) e in
        let more = split front items rest f.1 i.1 p.1 in
        let first : b ≡ a = alone b a i.0 f.0 p.0 in
        (ap (λ (x : E). x ∷ take (length front) items) first ∙ ap (λ (l : List E). a ∷ l) more.0, more.1)

    found_step : (one next front other_front rest : List (List ℕ)) (head : List ℕ) (items : List E) → one ≡ front ++ rest → next ≡ other_front ++ rest
        → IsFound front other_front → Comes next head items → Comes one head items
    found_step one next front other_front rest head items is_one is_other k c =
        let its : List E = compacted_by c.counts items in
        let n : ℕ = length k.items in
        let e : head ∷ map text its ≡ k.head ∷ (map text k.items ++ rest) = sym c.is ∙ is_other ∙ ap (λ (l : List (List ℕ)). l ++ rest) k.is_other in
        let p = cons_parts head k.head (map text its) (map text k.items ++ rest) e in
        let s = split k.items its rest k.each c.each p.1 in
        let by : compacted_by (c.counts ++ n ∷ []) items ≡ compacted n its = by_one_more c.counts n items in
        record {
          counts = c.counts ++ n ∷ [];
          is = is_one
              ∙ ap (λ (l : List (List ℕ)). l ++ rest) k.is_one
              ∙ ap (λ (h : List ℕ). h ∷ (map text (thin k.items) ++ rest)) (sym p.0)
              ∙ ap (λ (r : List (List ℕ)). head ∷ (map text (thin k.items) ++ r)) s.1
              ∙ ap (λ (l : List E). head ∷ (map text (thin l) ++ map text (drop n its))) (sym s.0)
              ∙ ap (λ (l : List (List ℕ)). head ∷ l) (sym (map-append text (thin (take n its)) (drop n its)))
              ∙ ap (λ (l : List E). head ∷ map text l) (sym by);
          each = subst (AllByRecursion Good) (sym by)
              (each_of_both Good (thin (take n its)) (drop n its) (stay (take n its) (each_of_first Good n its c.each)) (each_of_last Good n its c.each));
        }

    module _ (same : List (List ℕ) → List (List ℕ) → Type 0) (found : (one other : List (List ℕ)) → same one other → IsFound one other) where
      step : (one next : List (List ℕ)) (b : LeadsBeside same one next) → NoCollision same one next b → (head : List ℕ) (items : List E) → Comes next head items → Comes one head items
      step one next b apart head items c = elim b.fronts [
        | inl f ↦ found_step one next b.front b.other_front b.rest head items b.is_one b.is_other (found b.front b.other_front f) c
        | inr sealed ↦ subst (λ (l : List (List ℕ)). Comes l head items) (sym (b.is_one ∙ ap (λ (l : List (List ℕ)). l ++ b.rest) (apart sealed) ∙ sym b.is_other)) c
      ]

      by_steps : (between : List (List (List ℕ))) (one last : List (List ℕ)) (by : LeadsBy same between one last) → NoCollisionBy same between one last by
          → (head : List ℕ) (items : List E) → AllByRecursion Good items → last ≡ head ∷ map text items → Comes one head items
      by_steps [] one last by apart head items each is = record { counts = []; is = by ∙ is; each = each }
      by_steps (next ∷ between) one last by apart head items each is =
          step one next by.0 apart.0 head items (by_steps between next last by.1 apart.1 head items each is)

      -- what leads to a head and the texts of items is that head and the texts of the items, of which some were compacted
      pub comes : (one last : List (List ℕ)) (leads : Leads same one last) → HasNoCollision same one last leads
          → (head : List ℕ) (items : List E) → AllByRecursion Good items → last ≡ head ∷ map text items → Comes one head items
      comes one last leads apart = by_steps leads.0 one last leads.1 apart
