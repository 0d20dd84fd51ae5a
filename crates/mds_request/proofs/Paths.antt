-- Where a target is split.
use Rattle.std.proofs.Common.{◌≡◌, ℕ, Bool, true, false, cond, List, length, take, nat_lt, Some, None, position, refl, ap, sym}
use Rattle.std.specs.List.{position_or_len, before_first}
use Rattle.std.proofs.lemmas.Bool.{ltb-false}
use Rattle.std.proofs.lemmas.List.{take_all}

found_place : (n k : ℕ) (b : Bool) → Some n ≡ cond b (Some k) None → n ≡ k
found_place n k true e = cc
found_place n k false e = cc

found_none : (k : ℕ) (b : Bool) → None ≡ cond b (Some k) None → b ≡ false
found_none k true e = cc
found_none k false e = refl

-- the elements before the first that passes
pub before_found : (p : ℕ → Bool) (xs : List ℕ) (n : ℕ) → Some n ≡ position p xs → take n xs ≡ before_first p xs
before_found p xs n e =
    ap (λ k. take k xs) (found_place n (position_or_len p xs) (nat_lt (position_or_len p xs) (length xs)) e)

-- all of them, where none passes
pub before_none : (p : ℕ → Bool) (xs : List ℕ) → None ≡ position p xs → xs ≡ before_first p xs
before_none p xs e =
    sym (take_all (position_or_len p xs) xs (ltb-false _ _ (found_none (position_or_len p xs) (nat_lt (position_or_len p xs) (length xs)) e)))
