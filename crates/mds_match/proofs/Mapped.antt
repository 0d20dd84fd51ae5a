-- Tests over a list of values, and over the list of what they stand for.
use Rattle.std.proofs.Common.{◌≡◌, ◌+◌, ◌==◌, Bool, false, cond, not, ◌||◌, List, [], ◌∷◌, length, map, refl, sym, ap}
use Rattle.std.proofs.lemmas.List.{length-map}
use Rattle.std.specs.List.{list_any, position, position_or_len}
use Rattle.mds_match.specs.Matching.{empty_or}

pub list_any-map : {A B : Type 0} (p : B → Bool) (f : A → B) (xs : List A) → list_any p (map f xs) ≡ list_any (λ x. p (f x)) xs
list_any-map p f [] = refl
list_any-map p f (x ∷ xs) = ap (λ b. p (f x) || b) (list_any-map p f xs)

position_or_len-map : {A B : Type 0} (p : B → Bool) (f : A → B) (xs : List A) → position_or_len p (map f xs) ≡ position_or_len (λ x. p (f x)) xs
position_or_len-map p f [] = refl
position_or_len-map p f (x ∷ xs) = ap (λ n. cond (not (p (f x))) (1 + n) 0) (position_or_len-map p f xs)

pub position-map : {A B : Type 0} (p : B → Bool) (f : A → B) (xs : List A) → position p (map f xs) ≡ position (λ x. p (f x)) xs
position-map p f xs = rw (position_or_len-map p f xs, length-map xs f)

-- for a list that isn't empty, the test decides
pub empty_or-map : {A B : Type 0} (p : B → Bool) (f : A → B) (xs : List A) → false ≡ (length xs == 0) → list_any (λ x. p (f x)) xs ≡ empty_or (map f xs) (list_any p (map f xs))
empty_or-map p f [] h = cc
empty_or-map p f (x ∷ xs) h = sym (list_any-map p f (x ∷ xs))
