-- One turn of a loop over operators.
use Rattle.std.proofs.Common.{◌≡◌, ℕ, ◌+◌, ◌<◌, Bool, true, false, cond, List, [], ◌∷◌, ◌++◌, length}
use Rattle.std.proofs.Common.{map, drop, get_or, Option, Some, Result, Ok, Err, refl, sym, ap, ◌∙◌, append_assoc}
use Rattle.std.proofs.lemmas.List.{drop_more, map-append}
use Rattle.std.specs.List.{position_from}
use Rattle.mds_text.specs.Tree.{Json}
use Rattle.mds_request.specs.Configuration.{Operator}
use Rattle.mds_config_error.specs.declared.wrong.Wrong.{Wrong}
use Rattle.mds_config_error.specs.Diagnosis.{◌>>=◌, says_at, operator_of, each_from}

-- the element at an index, before those after it
at : {X Y : Type 0} (f : X → Y) (xs : List X) (i : ℕ) (x : X) → i < length xs → x ≡ get_or xs i x → map f (drop i xs) ≡ f x ∷ map f (drop (i + 1) xs)
at f xs i x within here = ap (map f) (drop_more xs i x within ∙ ap (λ y. y ∷ drop (i + 1) xs) (sym here))

-- a search goes on where an element doesn't pass
pub search_on : {X Y : Type 0} (p : Y → Bool) (f : X → Y) (n : ℕ) (xs : List X) (i : ℕ) (x : X) → i < length xs → x ≡ get_or xs i x → p (f x) ≡ false
    → position_from p n (map f (drop i xs)) ≡ position_from p (n + 1) (map f (drop (i + 1) xs))
search_on p f n xs i x within here fails =
    ap (position_from p n) (at f xs i x within here) ∙ ap (λ c. cond c (Some n) (position_from p (n + 1) (map f (drop (i + 1) xs)))) fails

-- and ends where one does
pub search_ends : {X Y : Type 0} (p : Y → Bool) (f : X → Y) (n : ℕ) (xs : List X) (i : ℕ) (x : X) → i < length xs → x ≡ get_or xs i x → p (f x) ≡ true
    → position_from p n (map f (drop i xs)) ≡ Some n
search_ends p f n xs i x within here passes =
    ap (position_from p n) (at f xs i x within here) ∙ ap (λ c. cond c (Some n) (position_from p (n + 1) (map f (drop (i + 1) xs)))) passes

pub map_push : {X Y : Type 0} (f : X → Y) (xs ys : List X) (y : X) → ys ≡ xs ++ y ∷ [] → map f ys ≡ map f xs ++ f y ∷ []
map_push f xs ys y e = ap (map f) e ∙ map-append f xs (y ∷ [])

-- what was read, with more before it
abbrev pub with_front : List Operator → Result (List Operator) Wrong → Result (List Operator) Wrong
with_front front found = found >>= λ rest. Ok (front ++ rest)

push_front : (done : List Operator) (a : Operator) (found : Result (List Operator) Wrong) → with_front (done ++ a ∷ []) found ≡ with_front done (found >>= λ rest. Ok (a ∷ rest))
push_front done a (Ok xs) = ap Ok (append_assoc done (a ∷ []) xs)
push_front done a (Err w) = refl

-- an operator that was read comes after those before it
pub read_on : {X : Type 0} (see : X → Json) (n : ℕ) (xs : List X) (i : ℕ) (x : X) (done more : List Operator) (a : Operator) → i < length xs →
    x ≡ get_or xs i x → says_at n (operator_of (see x)) ≡ Ok a → more ≡ done ++ a ∷ []
    → with_front more (each_from (n + 1) (map see (drop (i + 1) xs))) ≡ with_front done (each_from n (map see (drop i xs)))
read_on see n xs i x done more a within here is grown =
    ap (λ front. with_front front (each_from (n + 1) (map see (drop (i + 1) xs)))) grown
    ∙ push_front done a (each_from (n + 1) (map see (drop (i + 1) xs)))
    ∙ sym (ap (λ r. with_front done (r >>= λ b. each_from (n + 1) (map see (drop (i + 1) xs)) >>= λ rest. Ok (b ∷ rest))) is)
    ∙ sym (ap (λ ts. with_front done (each_from n ts)) (at see xs i x within here))

-- one with a flaw ends the reading
pub read_ends : {X : Type 0} (see : X → Json) (n : ℕ) (xs : List X) (i : ℕ) (x : X) (done : List Operator) (w : Wrong) → i < length xs →
    x ≡ get_or xs i x → says_at n (operator_of (see x)) ≡ Err w
    → with_front done (each_from n (map see (drop i xs))) ≡ Err w
read_ends see n xs i x done w within here is =
    ap (λ ts. with_front done (each_from n ts)) (at see xs i x within here)
    ∙ ap (λ r. with_front done (r >>= λ b. each_from (n + 1) (map see (drop (i + 1) xs)) >>= λ rest. Ok (b ∷ rest))) is

pub with_front-none : (found : Result (List Operator) Wrong) → with_front [] found ≡ found
with_front-none (Ok xs) = refl
with_front-none (Err w) = refl
