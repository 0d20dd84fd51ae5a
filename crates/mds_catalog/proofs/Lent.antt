-- Filters of borrowed documents.
use Rattle.std.proofs.Common.{◌≡◌, Bool, true, false, cond, List, [], ◌∷◌, map, filter, refl, ap}

-- filtering by the values of elements, before or after they are mapped to these
pub map-filter : {A B : Type 0} (see : A → B) (test : B → Bool) (xs : List A) → map see (filter (λ x. test (see x)) xs) ≡ filter test (map see xs)
map-filter see test [] = refl
map-filter {A} {B} see test (x ∷ xs) =
    elim (test (see x)) as (λ b. map see (cond b (x ∷ filter (λ x. test (see x)) xs) (filter (λ x. test (see x)) xs)) ≡ cond b (see x ∷ filter test (map see xs)) (filter test (map see xs))) [
      | true ↦ ap (λ ys. see x ∷ ys) (map-filter see test xs)
      | false ↦ map-filter see test xs
    ]
