-- Groups of samples that go together with the next one.
use Rattle.std.proofs.Common.{◌≡◌, ℕ, ◌+◌, ◌<◌, List, [], ◌∷◌, ◌++◌, Bool, true, false, if◌then◌else◌, take, drop, length, get_or}
use Rattle.std.proofs.Common.{refl, sym, ap, ◌∙◌, append_assoc, arith}
use Rattle.std.proofs.lemmas.List.{take_more, drop_all, at_drop_more}
use Rattle.cli_report.specs.Days.{grouped_by, joined}
use Rattle.cli_report.specs.declared.days.DaySample.{DaySample}

-- whether a sample goes together with the next one
abbrev pub Test : Type 0
Test = DaySample → DaySample → Bool

-- the first group has these samples in front
abbrev pub glued : List DaySample → List (List DaySample) → List (List DaySample)
glued samples [] = []
glued samples (group ∷ groups) = (samples ++ group) ∷ groups

glued_none : (groups : List (List DaySample)) → groups ≡ glued [] groups
glued_none [] = refl
glued_none (group ∷ groups) = refl

glued_both : (xs ys : List DaySample) (groups : List (List DaySample)) → glued xs (glued ys groups) ≡ glued (xs ++ ys) groups
glued_both xs ys [] = refl
glued_both xs ys (group ∷ groups) = ap (λ g. g ∷ groups) (sym (append_assoc xs ys group))

-- a sample begins the first group
abbrev Begins : DaySample → List (List DaySample) → Type 0
Begins s groups = (group : List DaySample) × (others : List (List DaySample)) × (groups ≡ (s ∷ group) ∷ others)

chosen : (s next : DaySample) (group : List DaySample) (groups : List (List DaySample)) (same : Bool)
    → Begins s (if same then (s ∷ next ∷ group) ∷ groups else (s ∷ []) ∷ (next ∷ group) ∷ groups)
chosen s next group groups true = (next ∷ group, groups, refl)
chosen s next group groups false = ([], (next ∷ group) ∷ groups, refl)

begins : (p : Test) (s : DaySample) (groups : List (List DaySample)) → Begins s (joined p s groups)
begins p s [] = ([], [], refl)
begins p s ([] ∷ groups) = ([], groups, refl)
begins p s ((next ∷ group) ∷ groups) = chosen s next group groups (p s next)

together : (p : Test) (a b : DaySample) (rest : List DaySample) → p a b ≡ true
    → grouped_by p (a ∷ b ∷ rest) ≡ glued (a ∷ []) (grouped_by p (b ∷ rest))
together p a b rest same =
    let h = begins p b (grouped_by p rest) in
    ap (joined p a) h.2
    ∙ ap (λ (t : Bool). if t then (a ∷ b ∷ h.0) ∷ h.1 else (a ∷ []) ∷ (b ∷ h.0) ∷ h.1) same
    ∙ ap (glued (a ∷ [])) (sym h.2)

apart : (p : Test) (a b : DaySample) (rest : List DaySample) → p a b ≡ false
    → grouped_by p (a ∷ b ∷ rest) ≡ (a ∷ []) ∷ grouped_by p (b ∷ rest)
apart p a b rest other =
    let h = begins p b (grouped_by p rest) in
    ap (joined p a) h.2
    ∙ ap (λ (t : Bool). if t then (a ∷ b ∷ h.0) ∷ h.1 else (a ∷ []) ∷ (b ∷ h.0) ∷ h.1) other
    ∙ ap (λ gs. (a ∷ []) ∷ gs) (sym h.2)

-- so far all are of one group
abbrev pub AreTogether : Test → List DaySample → ℕ → Type 0
AreTogether p xs i = grouped_by p xs ≡ glued (take i xs) (grouped_by p (drop i xs))

pub at_first : (p : Test) (xs : List DaySample) → AreTogether p xs 0
at_first p xs = glued_none (grouped_by p xs)

one_left : (xs : List DaySample) (i : ℕ) (a : DaySample) → i < length xs → a ≡ get_or xs i a → drop i xs ≡ a ∷ drop (i + 1) xs
one_left xs i a within is = at_drop_more (λ ys. ys) xs i a within ∙ ap (λ x. x ∷ drop (i + 1) xs) (sym is)

one_taken : (xs : List DaySample) (i : ℕ) (a : DaySample) → i < length xs → a ≡ get_or xs i a → take i xs ++ a ∷ [] ≡ take (i + 1) xs
one_taken xs i a within is = ap (λ x. take i xs ++ x ∷ []) is ∙ sym (take_more xs i a within)

pub one_more : (p : Test) (xs : List DaySample) (i : ℕ) (a b : DaySample) → i + 1 < length xs → a ≡ get_or xs i a → b ≡ get_or xs (i + 1) b
    → p a b ≡ true → AreTogether p xs i → AreTogether p xs (i + 1)
one_more p xs i a b within is_a is_b same so_far =
    let rest = drop (i + 1) xs in
    let after : rest ≡ b ∷ drop (i + 1 + 1) xs = one_left xs (i + 1) b within is_b in
    so_far
    ∙ ap (λ ys. glued (take i xs) (grouped_by p ys)) (one_left xs i a (omega (arith, within)) is_a ∙ ap (λ ys. a ∷ ys) after)
    ∙ ap (glued (take i xs)) (together p a b (drop (i + 1 + 1) xs) same)
    ∙ ap (λ ys. glued (take i xs) (glued (a ∷ []) (grouped_by p ys))) (sym after)
    ∙ glued_both (take i xs) (a ∷ []) (grouped_by p rest)
    ∙ ap (λ ys. glued ys (grouped_by p rest)) (one_taken xs i a (omega (arith, within)) is_a)

-- the group ends in front of one that doesn't go together with its last
pub ends : (p : Test) (xs : List DaySample) (i : ℕ) (a b : DaySample) → i + 1 < length xs → a ≡ get_or xs i a → b ≡ get_or xs (i + 1) b → p a b ≡ false
    → AreTogether p xs i → grouped_by p xs ≡ take (i + 1) xs ∷ grouped_by p (drop (i + 1) xs)
ends p xs i a b within is_a is_b other so_far =
    let rest = drop (i + 1) xs in
    let after : rest ≡ b ∷ drop (i + 1 + 1) xs = one_left xs (i + 1) b within is_b in
    so_far
    ∙ ap (λ ys. glued (take i xs) (grouped_by p ys)) (one_left xs i a (omega (arith, within)) is_a ∙ ap (λ ys. a ∷ ys) after)
    ∙ ap (glued (take i xs)) (apart p a b (drop (i + 1 + 1) xs) other)
    ∙ ap (λ ys. (take i xs ++ a ∷ []) ∷ grouped_by p ys) (sym after)
    ∙ ap (λ ys. ys ∷ grouped_by p rest) (one_taken xs i a (omega (arith, within)) is_a)

alone : (p : Test) (a : DaySample) (rest : List DaySample) → rest ≡ [] → grouped_by p (a ∷ rest) ≡ (a ∷ []) ∷ grouped_by p rest
alone p a rest none = ap (λ ys. grouped_by p (a ∷ ys)) none ∙ ap (λ ys. (a ∷ []) ∷ grouped_by p ys) (sym none)

-- or behind the last sample
last_of : (p : Test) (xs : List DaySample) (i : ℕ) (d : DaySample) → i + 1 ≡ length xs → AreTogether p xs i
    → grouped_by p xs ≡ take (i + 1) xs ∷ grouped_by p (drop (i + 1) xs)
last_of p xs i d end so_far =
    let rest = drop (i + 1) xs in
    let a = get_or xs i d in
    so_far
    ∙ at_drop_more (λ ys. glued (take i xs) (grouped_by p ys)) xs i d (omega (arith, end))
    ∙ ap (glued (take i xs)) (alone p a rest (drop_all (i + 1) xs (omega (arith, end))))
    ∙ ap (λ ys. ys ∷ grouped_by p rest) (sym (take_more xs i d (omega (arith, end))))

pub all_together : (p : Test) (xs : List DaySample) (i : ℕ) → 0 < length xs → i + 1 ≡ length xs → AreTogether p xs i
    → grouped_by p xs ≡ take (length xs) xs ∷ grouped_by p (drop (length xs) xs)
all_together p [] i some end so_far = grind arith
all_together p (x ∷ xs) i some end so_far =
    last_of p (x ∷ xs) i x end so_far ∙ ap (λ n. take n (x ∷ xs) ∷ grouped_by p (drop n (x ∷ xs))) end
