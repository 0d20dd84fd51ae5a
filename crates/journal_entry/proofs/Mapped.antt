-- Searches in a mapped list.
use Rattle.std.proofs.Common.{◌≡◌, ℕ, ◌+◌, Bool, true, false, cond, List, [], ◌∷◌, map, Option, Some, None, refl, sym, ap, ◌∙◌}
use Rattle.std.specs.Prelude.{find, option_map, position}
use Rattle.std.specs.List.{position_from}
use Rattle.std.proofs.lemmas.Iterator.Adapters.{position_from-zero}

from_map : {X Y : Type 0} (p : Y → Bool) (f : X → Y) (xs : List X) (i : ℕ) → position_from p i (map f xs) ≡ position_from (λ x. p (f x)) i xs
from_map p f [] i = refl
from_map p f (x ∷ xs) i = ap (λ (r : Option ℕ). cond (p (f x)) (Some i) r) (from_map p f xs (i + 1))

pub position_map : {X Y : Type 0} (p : Y → Bool) (f : X → Y) (xs : List X) → position p (map f xs) ≡ position (λ x. p (f x)) xs
position_map p f xs = position_from-zero p (map f xs) ∙ from_map p f xs 0 ∙ sym (position_from-zero (λ x. p (f x)) xs)

chosen : {X Y : Type 0} (b : Bool) (f : X → Y) (x : X) (o : Option X) → option_map f (cond b (Some x) o) ≡ cond b (Some (f x)) (option_map f o)
chosen b f x o = elim b as (λ v. option_map f (cond v (Some x) o) ≡ cond v (Some (f x)) (option_map f o)) [ true ↦ refl | false ↦ refl ]

pub find_map : {X Y : Type 0} (p : Y → Bool) (f : X → Y) (xs : List X) → option_map f (find (λ x. p (f x)) xs) ≡ find p (map f xs)
find_map p f [] = refl
find_map p f (x ∷ xs) = chosen (p (f x)) f x (find (λ y. p (f y)) xs) ∙ ap (λ o. cond (p (f x)) (Some (f x)) o) (find_map p f xs)
