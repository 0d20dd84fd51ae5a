-- Values sorted into numbered groups.
use Rattle.std.proofs.Common.{◌≡◌, ℕ, zero, suc, ◌+◌, ◌<◌, ◌≤◌, ◌==◌, Bool, true, false, cond, Option, Some, None, List, [], ◌∷◌, length, filter, sum_by, count_by, refl, sym, ◌∙◌, arith}
use Rattle.std.proofs.lemmas.Bool.{eqb-true}
use Rattle.std.proofs.lemmas.Bool.Decides.{nat_tests}
use Rattle.std.proofs.lemmas.List.Sums.{sum_by-cons}
use Rattle.std.specs.List.{range_with_len}
use Rattle.mds_match.specs.Matching.{is_rule}

-- a number is in one group alone
pub is_rule_once : (i j : ℕ) (group : Option ℕ) → is_rule i group ≡ true → is_rule j group ≡ true → i ≡ j
is_rule_once i j None p q = cc
is_rule_once i j (Some k) p q = eqb-true i k p ∙ sym (eqb-true j k q)

count_by-cons : (p : ℕ → Bool) (n : ℕ) (ns : List ℕ) → count_by p (n ∷ ns) ≡ cond (p n) 1 0 + count_by p ns
count_by-cons p n ns = sum_by-cons (λ m. cond (p m) 1 0) n ns

at_most_one : (b : Bool) (count : ℕ) → (b ≡ true → count ≡ 0) → count ≤ 1 → cond b 1 0 + count ≤ 1
at_most_one true count none few = omega (arith, none refl)
at_most_one false count none few = omega arith

none_there : (b : Bool) (count : ℕ) → b ≡ false → count ≡ 0 → cond b 1 0 + count ≡ 0
none_there true count h none = cc
none_there false count h none = omega arith

apart : (a k : ℕ) → k < a → (a == k) ≡ false
apart a k h = grind (arith, nat_tests)

none_below : (m a k : ℕ) → k < a → count_by (λ n. n == k) (range_with_len a m) ≡ 0
none_below zero a k h = refl
none_below (suc m) a k h =
    count_by-cons (λ n. n == k) a (range_with_len (a + 1) m) ∙ none_there (a == k) _ (apart a k h) (none_below m (a + 1) k (omega arith))

one_number : (m a k : ℕ) → count_by (λ n. n == k) (range_with_len a m) ≤ 1
one_number zero a k = omega arith
one_number (suc m) a k =
    let count = count_by (λ n. n == k) (range_with_len (a + 1) m) in
    let few = at_most_one (a == k) count (λ e. let same = eqb-true a k e in none_below m (a + 1) k (omega arith)) (one_number m (a + 1) k) in
    omega (arith, count_by-cons (λ n. n == k) a (range_with_len (a + 1) m), few)

no_number : (ns : List ℕ) → count_by (λ n. is_rule n None) ns ≡ 0
no_number [] = refl
no_number (n ∷ ns) = omega (arith, count_by-cons (λ k. is_rule k None) n ns, no_number ns)

one_group : (m : ℕ) (group : Option ℕ) → count_by (λ n. is_rule n group) (range_with_len 0 m) ≤ 1
one_group m None = omega (arith, no_number (range_with_len 0 m))
one_group m (Some k) = one_number m 0 k

split_one : {X : Type 0} (b : Bool) (x : X) (xs : List X) → length (cond b (x ∷ xs) xs) ≡ cond b 1 0 + length xs
split_one true x xs = omega arith
split_one false x xs = omega arith

split_groups : {X : Type 0} (p : ℕ → Bool) (x : X) (kept : ℕ → List X) (ns : List ℕ) → sum_by (λ n. length (cond (p n) (x ∷ kept n) (kept n))) ns ≡ count_by p ns + sum_by (λ n. length (kept n)) ns
split_groups p x kept [] = refl
split_groups p x kept (n ∷ ns) =
    omega (arith, sum_by-cons (λ k. length (cond (p k) (x ∷ kept k) (kept k))) n ns, count_by-cons p n ns, sum_by-cons (λ k. length (kept k)) n ns, split_one (p n) x (kept n), split_groups p x kept ns)

zeros : (ns : List ℕ) → sum_by (λ n. 0) ns ≡ 0
zeros [] = refl
zeros (n ∷ ns) = zeros ns

-- all groups together have no more elements than there are values
pub groups_at_most : {X : Type 0} (f : X → Option ℕ) (m : ℕ) (xs : List X) → sum_by (λ n. length (filter (λ x. is_rule n (f x)) xs)) (range_with_len 0 m) ≤ length xs
groups_at_most f m [] = omega (arith, zeros (range_with_len 0 m))
groups_at_most f m (x ∷ xs) =
    omega (arith, split_groups (λ n. is_rule n (f x)) x (λ n. filter (λ y. is_rule n (f y)) xs) (range_with_len 0 m), one_group m (f x), groups_at_most f m xs)
