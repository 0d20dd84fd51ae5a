-- A list that is made element by element, by place.
use Rattle.std.proofs.Common.{◌≡◌, ℕ, ◌+◌, List, [], ◌∷◌, ◌++◌, map, sym, ap, ◌∙◌, arith}
use Rattle.std.specs.List.{range_with_len}
use Rattle.std.proofs.lemmas.List.{map-append}
use Rattle.std.proofs.lemmas.List.FromFn.{map-range_with_len_more}

-- one more element, at place n
pub one_more : {D S : Type 0} (state : D → S) (new : ℕ → S) (made all : List D) (next : D) (n m : ℕ) → all ≡ made ++ next ∷ [] → state next ≡ new n → m ≡ n + 1 → map state made ≡ map new (range_with_len 0 n) → map state all ≡ map new (range_with_len 0 m)
one_more state new made all next n m more is long so_far =
    ap (map state) more ∙ map-append state made (next ∷ []) ∙ ap (λ xs. xs ++ state next ∷ []) so_far
    ∙ ap (λ x. map new (range_with_len 0 n) ++ x ∷ []) is
    ∙ sym (map-range_with_len_more new 0 n n (omega arith))
    ∙ ap (λ k. map new (range_with_len 0 k)) (sym long)
