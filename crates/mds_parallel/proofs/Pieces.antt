-- Lists cut into pieces.
use Rattle.std.proofs.Common.{◌≡◌, ℕ, zero, suc, ◌+◌, ◌<◌, ◌≤◌, List, [], ◌∷◌, ◌++◌, flat_map, length, map, take, drop, get_or, refl, sym, ap, ◌∙◌, arith, length-append}
use Rattle.std.specs.List.{AllZip}
use Rattle.std.proofs.lemmas.List.{append-nil, map-append, take-append-drop, take_more}
use Rattle.std.proofs.lemmas.List.Concat.{flat_map-append}

-- what holds of the items of two lists, at one index
pub AllZip-at : {A B : Type 0} (R : A → B → Type 0) (xs : List A) (ys : List B) (i : ℕ) (a : A) (b : B) → AllZip R xs ys → i < length ys → R (get_or xs i a) (get_or ys i b)
AllZip-at R [] [] i a b all within = absurd (omega arith)
AllZip-at R [] (y ∷ ys) i a b all within = absurd all
AllZip-at R (x ∷ xs) [] i a b all within = absurd all
AllZip-at R (x ∷ xs) (y ∷ ys) zero a b all within = all.0
AllZip-at R (x ∷ xs) (y ∷ ys) (suc i) a b all within = AllZip-at R xs ys i a b all.1 (omega arith)

pub AllZip-lengths : {A B : Type 0} (R : A → B → Type 0) (xs : List A) (ys : List B) → AllZip R xs ys → length xs ≡ length ys
AllZip-lengths R [] [] all = refl
AllZip-lengths R [] (y ∷ ys) all = absurd all
AllZip-lengths R (x ∷ xs) [] all = absurd all
AllZip-lengths R (x ∷ xs) (y ∷ ys) all = ap suc (AllZip-lengths R xs ys all.1)

-- the pieces of a list, joined
abbrev pub whole : {X : Type 0} → List (List X) → List X
whole pieces = flat_map (λ piece. piece) pieces

pub whole_more : {X : Type 0} (pieces : List (List X)) (i : ℕ) → i < length pieces → whole (take (i + 1) pieces) ≡ whole (take i pieces) ++ get_or pieces i []
whole_more pieces i within =
    ap whole (take_more pieces i [] within) ∙ flat_map-append (λ piece. piece) (take i pieces) (get_or pieces i [] ∷ [])
    ∙ ap (λ rest. whole (take i pieces) ++ rest) (append-nil (get_or pieces i []))

-- the first pieces are together no longer than the whole
pub first_at_most : {X : Type 0} (pieces : List (List X)) (i : ℕ) → length (whole (take i pieces)) ≤ length (whole pieces)
first_at_most pieces i =
    let parts = ap whole (sym (take-append-drop i pieces)) ∙ flat_map-append (λ piece. piece) (take i pieces) (drop i pieces) in
    omega (arith, ap length parts, length-append (whole (take i pieces)) (whole (drop i pieces)))

-- no piece is longer than the whole
pub piece_at_most : {X : Type 0} (pieces : List (List X)) (i : ℕ) → i < length pieces → length (get_or pieces i []) ≤ length (whole pieces)
piece_at_most pieces i within =
    omega (arith, first_at_most pieces (i + 1), ap length (whole_more pieces i within), length-append (whole (take i pieces)) (get_or pieces i []))

pub whole-map : {X Y : Type 0} (f : X → Y) (pieces : List (List X)) → whole (map (map f) pieces) ≡ map f (whole pieces)
whole-map f [] = refl
whole-map f (piece ∷ pieces) = ap (λ rest. map f piece ++ rest) (whole-map f pieces) ∙ sym (map-append f piece (whole pieces))
