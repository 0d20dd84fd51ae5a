-- Moments that are the same span apart.
use Rattle.std.proofs.Common.{◌≡◌, ℕ, ◌+◌, ◌-◌, ◌*◌, ◌/◌, ◌<◌, ◌≤◌, List, [], ◌∷◌, ◌++◌, map, sym, ap, ◌∙◌, arith}
use Rattle.std.specs.List.{range_with_len}
use Rattle.std.proofs.lemmas.List.FromFn.{map-range_with_len_more}
use Rattle.std.proofs.Math.Nat.{div-mul-le_self, mul-le-mul_right}

-- what is counted from the first one to one of them is less than to the end and one span more
pub short : (gap every n : ℕ) → 0 < every → n < (gap + (every - 1)) / every → n * every < gap + every
short gap every n some less =
    let q = (gap + (every - 1)) / every in
    let whole = div-mul-le_self (gap + (every - 1)) every in
    let part : n * every ≤ q * every = mul-le-mul_right every (omega (arith, less)) in
    omega (arith, whole, part, some)

-- one more of them
pub one_more : (first every n at : ℕ) (old new : List ℕ) → old ≡ map (λ k. first + k * every) (range_with_len 0 n) → at ≡ first + n * every → new ≡ old ++ at ∷ []
    → new ≡ map (λ k. first + k * every) (range_with_len 0 (n + 1))
one_more first every n at old new so_far is made =
    made ∙ ap (λ xs. xs ++ at ∷ []) so_far ∙ ap (λ a. map (λ k. first + k * every) (range_with_len 0 n) ++ a ∷ []) is
    ∙ sym (map-range_with_len_more (λ k. first + k * every) 0 n n (omega arith))
