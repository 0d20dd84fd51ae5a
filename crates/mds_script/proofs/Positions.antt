-- The position of the first such byte, and the bytes before and after it.
use Rattle.std.proofs.Common.{◌≡◌, ℕ, ◌+◌, ◌≤◌, Bool, true, false, not, cond, ◌||◌, List, [], ◌∷◌, length, take, drop, Option, Some, None, position, ltb, refl, sym, ap, ◌∙◌, add_comm, add-one, arith}
use Rattle.std.specs.List.{position_or_len, prefix_len, before_first, after_first, list_any}
use Rattle.std.proofs.lemmas.Option.{cond_some}
use Rattle.std.proofs.lemmas.Bool.{ltb-false, lt-ltb, le-ltb}
use Rattle.std.proofs.lemmas.List.Sums.{position_or_len_is}
use Rattle.memchr.specs.Find.{IsFirstByte}
use Rattle.std.proofs.lemmas.List.{take_all, drop_all}

-- an option made by a test is nothing only where the test failed
cond_none : {A : Type 0} (b : Bool) (x : A) → cond b (Some x) None ≡ None → b ≡ false
cond_none true x h = cc
cond_none false x h = refl

-- the position that was found is the first that passes
pub position_found : {X : Type 0} (p : X → Bool) (xs : List X) (i : ℕ) → position p xs ≡ Some i → position_or_len p xs ≡ i
position_found p xs i h = (cond_some (ltb (position_or_len p xs) (length xs)) (position_or_len p xs) i h).1

-- where none was found, the first that passes is the length
pub position_missing : {X : Type 0} (p : X → Bool) (xs : List X) → position p xs ≡ None → length xs ≤ position_or_len p xs
position_missing p xs h =
    ltb-false (position_or_len p xs) (length xs) (cond_none (ltb (position_or_len p xs) (length xs)) (position_or_len p xs) h)

pub word_found : {X : Type 0} (p : X → Bool) (xs : List X) (i : ℕ) → position p xs ≡ Some i → take i xs ≡ before_first p xs
word_found p xs i h = ap (λ n. take n xs) (sym (position_found p xs i h))

pub behind_found : {X : Type 0} (p : X → Bool) (xs : List X) (i : ℕ) → position p xs ≡ Some i → drop (i + 1) xs ≡ after_first p xs
behind_found p xs i h = ap (λ n. drop (n + 1) xs) (sym (position_found p xs i h))

pub word_missing : {X : Type 0} (p : X → Bool) (xs : List X) → position p xs ≡ None → xs ≡ before_first p xs
word_missing p xs h = sym (take_all (position_or_len p xs) xs (position_missing p xs h))

pub behind_missing : {X : Type 0} (p : X → Bool) (xs : List X) → position p xs ≡ None → [] ≡ after_first p xs
behind_missing p xs h =
    let missing = position_missing p xs h in
    sym (drop_all (position_or_len p xs + 1) xs (omega arith))

none_before_step : {X : Type 0} (p : X → Bool) (x : X) (xs : List X) (b : Bool) → p x ≡ b → list_any p (before_first p xs) ≡ false → list_any p (take (cond (not b) (1 + prefix_len (λ y. not (p y)) xs) 0) (x ∷ xs)) ≡ false
none_before_step p x xs true e h = refl
none_before_step p x xs false e h =
    let front : take (1 + prefix_len (λ y. not (p y)) xs) (x ∷ xs) ≡ x ∷ before_first p xs = ap (λ n. take n (x ∷ xs)) (add_comm 1 (prefix_len (λ y. not (p y)) xs) ∙ add-one (prefix_len (λ y. not (p y)) xs)) in
    ap (list_any p) front ∙ (ap (λ b. b || list_any p (before_first p xs)) e ∙ h)

-- no element before the first that passes does
pub none_before : {X : Type 0} (p : X → Bool) (xs : List X) → list_any p (before_first p xs) ≡ false
none_before p [] = refl
none_before p (x ∷ xs) = none_before_step p x xs (p x) refl (none_before p xs)

untrue : (b : Bool) → ¬ (b ≡ true) → b ≡ false
untrue true h = absurd (h refl)
untrue false h = refl

-- the first byte that passes is at the position of the first element that does
pub first_is_position : (p : ℕ → Bool) (xs : List ℕ) (found : Option ℕ) → IsFirstByte p xs found → found ≡ position p xs
first_is_position p xs None h =
    let at : position_or_len p xs ≡ length xs = position_or_len_is p xs (length xs) 0 (omega arith) (λ k low. untrue _ (h k (omega arith) low)) (λ low. absurd (omega (arith, low))) in
    sym (ap (λ n. cond (ltb n (length xs)) (Some n) None) at ∙ ap (λ b. cond b (Some (length xs)) None) (le-ltb (length xs) (length xs) (omega arith)))
first_is_position p xs (Some i) h =
    let at : position_or_len p xs ≡ i = position_or_len_is p xs i 0 (omega (arith, h.0.high)) (λ k low. untrue _ (h.0.before k (omega arith) low)) (λ _. h.1) in
    sym (ap (λ n. cond (ltb n (length xs)) (Some n) None) at ∙ ap (λ b. cond b (Some i) None) (lt-ltb i (length xs) h.0.high))
