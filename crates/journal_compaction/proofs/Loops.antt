-- One step of a loop over a journal's entries.
use Rattle.std.proofs.Common.{◌≡◌, ℕ, suc, zero, ◌+◌, ◌-◌, ◌<◌, ◌≤◌, refl, sym, ap, subst, ◌∙◌, arith}
use Rattle.std.proofs.Common.{Bool, true, false, cond, List, [], ◌∷◌, ◌++◌, length, map, take, drop, reverse, get_or, append_assoc}
use Rattle.std.proofs.Math.Seq.{take-suc, drop-cons}
use Rattle.std.proofs.lemmas.Grind.{reverse_onto}
use Rattle.std.proofs.lemmas.List.{reverse-append}
use Rattle.journal_compaction.specs.declared.kind.EntryKind.{EntryKind}
use Rattle.journal_compaction.specs.Staying.{staying, picked}
use Rattle.journal_compaction.specs.Passes.{begins_at, beginnings, stays_at}
use Rattle.journal_compaction.proofs.Known.{stays_as_known}

pub drop_more : {A : Type 0} (xs : List A) (i : ℕ) (d : A) → i < length xs → drop i xs ≡ get_or xs i d ∷ drop (i + 1) xs
drop_more xs i d h = let e : i + 1 ≡ suc i = omega arith in rw e (drop-cons xs i d h)

pub reverse_more : {A : Type 0} (xs : List A) (i : ℕ) (d : A) → i < length xs → reverse (take (i + 1) xs) ≡ get_or xs i d ∷ reverse (take i xs)
reverse_more xs i d h = let e : i + 1 ≡ suc i = omega arith in rw e (ap reverse (take-suc xs i d h) ∙ reverse-append (take i xs) (get_or xs i d ∷ []))

-- whether one more entry begins a run, with what was found so far
pub begins_more : (found : List Bool) (kinds : List EntryKind) (i : ℕ) (d : EntryKind) (is : Bool) → i < length kinds
    → found ++ beginnings (reverse (take i kinds)) (drop i kinds) ≡ beginnings [] kinds
    → is ≡ begins_at (reverse (take i kinds)) (get_or kinds i d)
    → (found ++ is ∷ []) ++ beginnings (reverse (take (i + 1) kinds)) (drop (i + 1) kinds) ≡ beginnings [] kinds
begins_more found kinds i d is h all found_is =
    append_assoc found (is ∷ []) (beginnings (reverse (take (i + 1) kinds)) (drop (i + 1) kinds))
    ∙ ap (λ b. found ++ b ∷ beginnings (reverse (take (i + 1) kinds)) (drop (i + 1) kinds)) found_is
    ∙ ap (λ before. found ++ begins_at (reverse (take i kinds)) (get_or kinds i d) ∷ beginnings before (drop (i + 1) kinds)) (reverse_more kinds i d h)
    ∙ ap (λ behind. found ++ beginnings (reverse (take i kinds)) behind) (sym (drop_more kinds i d h))
    ∙ all

pub length_beginnings : (before kinds : List EntryKind) → length (beginnings before kinds) ≡ length kinds
length_beginnings before [] = refl
length_beginnings before (kind ∷ kinds) = ap (λ n. suc n) (length_beginnings (kind ∷ before) kinds)

beginning_behind : (before kinds : List EntryKind) (p : ℕ) (d : EntryKind) (b : Bool) → p < length kinds
    → get_or (beginnings before kinds) p b ≡ begins_at (reverse (take p kinds) ++ before) (get_or kinds p d)
beginning_behind before [] p d b h = absurd (omega (arith, h))
beginning_behind before (kind ∷ kinds) zero d b h = refl
beginning_behind before (kind ∷ kinds) (suc p) d b h =
    beginning_behind (kind ∷ before) kinds p d b (omega (arith, h))
    ∙ ap (λ front. begins_at front (get_or kinds p d))
    (sym (ap (λ front. front ++ before) (reverse_onto (take p kinds) kind []) ∙ append_assoc (reverse (take p kinds)) (kind ∷ []) before))

append_nil : {A : Type 0} (xs : List A) → xs ++ [] ≡ xs
append_nil [] = refl
append_nil (x ∷ xs) = ap (λ rest. x ∷ rest) (append_nil xs)

pub beginning_at : (kinds : List EntryKind) (p : ℕ) (d : EntryKind) (b : Bool) → p < length kinds
    → get_or (beginnings [] kinds) p b ≡ begins_at (reverse (take p kinds)) (get_or kinds p d)
beginning_at kinds p d b h = beginning_behind [] kinds p d b h ∙ ap (λ front. begins_at front (get_or kinds p d)) (append_nil (reverse (take p kinds)))

stays_one_more : (found : List Bool) (kinds : List EntryKind) (p : ℕ) (d : EntryKind) (b is : Bool) → p < length kinds
    → reverse found ≡ staying (reverse (take (p + 1) kinds)) (drop (p + 1) kinds)
    → b ≡ begins_at (reverse (take p kinds)) (get_or kinds p d)
    → is ≡ stays_at (get_or kinds p d) b (drop (p + 1) kinds)
    → reverse (found ++ is ∷ []) ≡ staying (reverse (take p kinds)) (drop p kinds)
stays_one_more found kinds p d b is h all begins_is stays_is =
    reverse-append found (is ∷ [])
    ∙ ap (λ rest. is ∷ rest) (all ∙ ap (λ before. staying before (drop (p + 1) kinds)) (reverse_more kinds p d h))
    ∙ ap (λ s. s ∷ staying (get_or kinds p d ∷ reverse (take p kinds)) (drop (p + 1) kinds))
    (stays_is ∙ ap (λ begun. stays_at (get_or kinds p d) begun (drop (p + 1) kinds)) begins_is
    ∙ stays_as_known (reverse (take p kinds)) (get_or kinds p d) (drop (p + 1) kinds))
    ∙ ap (staying (reverse (take p kinds))) (sym (drop_more kinds p d h))

-- whether one more entry stays, from the last one on
pub stays_more : (found : List Bool) (kinds : List EntryKind) (place : ℕ) (d : EntryKind) (b is : Bool) → 0 < place → place ≤ length kinds
    → reverse found ≡ staying (reverse (take place kinds)) (drop place kinds)
    → b ≡ begins_at (reverse (take (place - 1) kinds)) (get_or kinds (place - 1) d)
    → is ≡ stays_at (get_or kinds (place - 1) d) b (drop place kinds)
    → reverse (found ++ is ∷ []) ≡ staying (reverse (take (place - 1) kinds)) (drop (place - 1) kinds)
stays_more found kinds place d b is some within all begins_is stays_is =
    let e : place ≡ (place - 1) + 1 = omega (arith, some) in
    stays_one_more found kinds (place - 1) d b is (omega (arith, some, within))
    (subst (λ n. reverse found ≡ staying (reverse (take n kinds)) (drop n kinds)) e all) begins_is
    (subst (λ n. is ≡ stays_at (get_or kinds (place - 1) d) b (drop n kinds)) e stays_is)

pub drop_one_more : {A : Type 0} (xs : List A) (place : ℕ) (d : A) → 0 < place → place ≤ length xs
    → drop (place - 1) xs ≡ get_or xs (place - 1) d ∷ drop place xs
drop_one_more xs place d some within =
    let e : (place - 1) + 1 ≡ place = omega (arith, some) in
    drop_more xs (place - 1) d (omega (arith, some, within)) ∙ ap (λ n. get_or xs (place - 1) d ∷ drop n xs) e

picked_one : {A : Type 0} (mark : Bool) (entry : A) (marks : List Bool) (entries : List A)
    → picked (mark ∷ marks) (entry ∷ entries) ≡ cond mark (entry ∷ []) [] ++ picked marks entries
picked_one true entry marks entries = refl
picked_one false entry marks entries = refl

-- one more entry is kept or dropped, with what was kept so far
pub picked_more : {E A : Type 0} (of : E → A) (marks : List Bool) (entries : List E) (i : ℕ) (d : Bool) (e : E) (kept next : List A)
    → i < length marks → i < length entries
    → next ≡ kept ++ cond (get_or marks i d) (of (get_or entries i e) ∷ []) []
    → kept ++ picked (drop i marks) (map of (drop i entries)) ≡ picked marks (map of entries)
    → next ++ picked (drop (i + 1) marks) (map of (drop (i + 1) entries)) ≡ picked marks (map of entries)
picked_more of marks entries i d e kept next h k is all =
    let one = cond (get_or marks i d) (of (get_or entries i e) ∷ []) [] in
    let rest = picked (drop (i + 1) marks) (map of (drop (i + 1) entries)) in
    ap (λ front. front ++ rest) is ∙ append_assoc kept one rest
    ∙ ap (λ behind. kept ++ behind) (sym (picked_one (get_or marks i d) (of (get_or entries i e)) (drop (i + 1) marks) (map of (drop (i + 1) entries))))
    ∙ ap (λ ms. kept ++ picked ms (of (get_or entries i e) ∷ map of (drop (i + 1) entries))) (sym (drop_more marks i d h))
    ∙ ap (λ es. kept ++ picked (drop i marks) (map of es)) (sym (drop_more entries i e k))
    ∙ all

pub length_staying : (before kinds : List EntryKind) → length (staying before kinds) ≡ length kinds
length_staying before [] = refl
length_staying before (kind ∷ kinds) = ap (λ n. suc n) (length_staying (kind ∷ before) kinds)
