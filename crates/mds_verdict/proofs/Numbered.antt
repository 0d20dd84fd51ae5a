-- Values of the elements of a list and their indices.
use Rattle.std.proofs.Common.{◌≡◌, ◌≢◌, ℕ, zero, suc, ◌+◌, ◌<◌, ◌≤◌, List, [], ◌∷◌, ◌++◌, length, map, take, drop, get_or, set, refl, ap, ◌∙◌, arith}
use Rattle.std.proofs.Math.Seq.{take-append_seam}
use Rattle.std.specs.List.{enumerate_from}

-- a value for each element and its index
abbrev pub numbered : {X V : Type 0} → (ℕ → X → V) → ℕ → List X → List V
numbered f n xs = map (λ e. f e.0 e.1) (enumerate_from n xs)

pub map-map : {X Y Z : Type 0} (f : Y → Z) (g : X → Y) (xs : List X) → map f (map g xs) ≡ map (λ x. f (g x)) xs
map-map f g [] = refl
map-map f g (x ∷ xs) = ap (λ zs. f (g x) ∷ zs) (map-map f g xs)

-- values that are equal from an index on
pub numbered_same : {X V : Type 0} (f g : ℕ → X → V) (n : ℕ) (xs : List X) → ((k : ℕ) (x : X) → n ≤ k → g k x ≡ f k x) → numbered g n xs ≡ numbered f n xs
numbered_same f g n [] same = refl
numbered_same f g n (x ∷ xs) same =
    ap (λ v. v ∷ numbered g (n + 1) xs) (same n x (omega arith)) ∙ ap (λ vs. f n x ∷ vs) (numbered_same f g (n + 1) xs (λ k y l. same k y (omega arith)))

-- values that are equal but at one index
pub numbered_set : {X V : Type 0} (f g : ℕ → X → V) (n i m : ℕ) (xs : List X) (d : X) → i < length xs → m ≡ n + i → ((k : ℕ) (x : X) → k ≢ m → g k x ≡ f k x)
    → numbered g n xs ≡ set (numbered f n xs) i (g m (get_or xs i d))
numbered_set f g n i m [] d within at same = absurd (omega arith)
numbered_set f g n zero m (x ∷ xs) d within at same =
    ap (λ v. v ∷ numbered g (n + 1) xs) (ap (λ k. g k x) (let e : n ≡ m = omega arith in e))
    ∙ ap (λ vs. g m x ∷ vs) (numbered_same f g (n + 1) xs (λ k y l. same k y (λ e. omega arith)))
numbered_set f g n (suc i) m (x ∷ xs) d within at same =
    ap (λ v. v ∷ numbered g (n + 1) xs) (same n x (λ e. omega arith))
    ∙ ap (λ vs. f n x ∷ vs) (numbered_set f g (n + 1) i m xs d (omega arith) (omega arith) same)

-- the value of an element
pub get_or-numbered : {X V : Type 0} (f : ℕ → X → V) (n i m : ℕ) (xs : List X) (d : X) (v : V) → i < length xs → m ≡ n + i → get_or (numbered f n xs) i v ≡ f m (get_or xs i d)
get_or-numbered f n i m [] d v within at = absurd (omega arith)
get_or-numbered f n zero m (x ∷ xs) d v within at = ap (λ k. f k x) (let e : n ≡ m = omega arith in e)
get_or-numbered f n (suc i) m (x ∷ xs) d v within at = get_or-numbered f (n + 1) i m xs d v (omega arith) (omega arith)

-- values of two lists that are equal at each index
pub map_alike : {X V : Type 0} (f g : X → V) (xs ys : List X) → length xs ≡ length ys
    → ((k : ℕ) (d : X) → k < length ys → f (get_or xs k d) ≡ g (get_or ys k d)) → map f xs ≡ map g ys
map_alike f g [] [] long same = refl
map_alike f g [] (y ∷ ys) long same = absurd (omega arith)
map_alike f g (x ∷ xs) [] long same = absurd (omega arith)
map_alike f g (x ∷ xs) (y ∷ ys) long same =
    ap (λ v. v ∷ map f xs) (same 0 x (omega arith)) ∙ ap (λ vs. g y ∷ vs) (map_alike f g xs ys (omega arith) (λ k d l. same (suc k) d (omega arith)))

-- what a list stands for, from what each element stands for
pub by_places : {X V : Type 0} (f : X → V) (xs : List X) (vs : List V) → length xs ≡ length vs
    → ((k : ℕ) (d : X) (v : V) → k < length xs → f (get_or xs k d) ≡ get_or vs k v) → map f xs ≡ vs
by_places f [] [] long same = refl
by_places f [] (v ∷ vs) long same = absurd (omega arith)
by_places f (x ∷ xs) [] long same = absurd (omega arith)
by_places f (x ∷ xs) (v ∷ vs) long same =
    ap (λ w. w ∷ map f xs) (same 0 x v (omega arith)) ∙ ap (λ ws. v ∷ ws) (by_places f xs vs (omega arith) (λ k d w l. same (suc k) d w (omega arith)))

-- a vector after its elements were overwritten
pub written_back : {X : Type 0} (n : ℕ) (xs ys : List X) → n ≡ length ys → take n (ys ++ drop (length ys) xs) ≡ ys
written_back n xs ys long = ap (λ k. take k (ys ++ drop (length ys) xs)) long ∙ take-append_seam ys (drop (length ys) xs)
