-- Prefixes of one list.
use Rattle.std.proofs.lemmas.Bool.Decides.{nat_tests}
use Rattle.std.proofs.Common.{◌≡◌, ℕ, ◌≤◌, ◌<◌, Bool, true, false, nat_le, nat_eq, MatchBool, List, [], ◌∷◌, ◌++◌, length, take, drop, refl, ap, sym, ◌∙◌, arith, append_assoc, length-append}
use Rattle.std.proofs.lemmas.List.{take-append-drop, take-append-le, length-take-le}
use mathlib.Core.List.{IsPrefix}

pub prefix_trans : {A : Type 0} (xs ys zs : List A) → IsPrefix xs ys → IsPrefix ys zs → IsPrefix xs zs
prefix_trans xs ys zs p q = (p.0 ++ q.0, sym (append_assoc xs p.0 q.0) ∙ (ap (λ w. w ++ q.0) p.1 ∙ q.1))

-- of two prefixes of one list the shorter is a prefix of the longer
pub prefix_shorter : {A : Type 0} (xs ys zs : List A) → IsPrefix xs zs → IsPrefix ys zs → length xs ≤ length ys → IsPrefix xs ys
prefix_shorter [] ys zs p q le = (ys, refl)
prefix_shorter (x ∷ xs) [] zs p q le = absurd (omega arith)
prefix_shorter (x ∷ xs) (y ∷ ys) [] p q le = absurd (cc (p.1))
prefix_shorter (x ∷ xs) (y ∷ ys) (z ∷ zs) p q le =
    let heads : x ≡ y = cc (p.1, q.1) in
    let rest = prefix_shorter xs ys zs (p.0, cc (p.1)) (q.0, cc (q.1)) (omega arith) in
    (rest.0, cc (heads, rest.1))

-- a prefix as long as the whole is the whole
pub prefix_whole : {A : Type 0} (xs ys : List A) → IsPrefix xs ys → length ys ≤ length xs → xs ≡ ys
prefix_whole [] [] p le = refl
prefix_whole [] (y ∷ ys) p le = absurd (omega arith)
prefix_whole (x ∷ xs) [] p le = absurd (cc (p.1))
prefix_whole (x ∷ xs) (y ∷ ys) p le =
    let rest = prefix_whole xs ys (p.0, cc (p.1)) (omega arith) in cc (p.1, rest)

-- a prefix is what is taken of the whole
pub prefix_taken : {A : Type 0} (xs ys : List A) (n : ℕ) → IsPrefix xs ys → n ≡ length xs → (n ≤ length ys) × (take n ys ≡ xs)
prefix_taken xs ys n p len =
    let more : length xs ≤ length ys = omega (arith, sym (ap length p.1) ∙ length-append xs p.0) in
    let taken : take (length xs) ys ≡ xs =
    ap (take (length xs)) (sym p.1) ∙ take-append-le (length xs) xs p.0 (omega arith) ∙ prefix_whole (take (length xs) xs) xs (drop (length xs) xs, take-append-drop (length xs) xs) (omega (arith, length-take-le (length xs) xs (omega arith))) in
    (omega (arith, len, more), rw len taken)

-- what is taken of a list is a prefix of it
pub taken_begins : {A : Type 0} (xs : List A) (n : ℕ) → IsPrefix (take n xs) xs
taken_begins xs n = (drop n xs, take-append-drop n xs)

-- two prefixes of one list that are equally long are equal
pub one_front : {A : Type 0} (mine other both : List A) (n m : ℕ) → n ≡ length mine → m ≡ length other → IsPrefix mine both → IsPrefix other both
    → nat_eq n m ≡ true → mine ≡ other
one_front mine other both n m len len' p q is =
    let same : n ≡ m = grind (arith, nat_tests) in
    prefix_whole mine other (prefix_shorter mine other both p q (omega arith)) (omega arith)

-- of two prefixes of one list the one that isn't longer is a prefix of the other
pub front_of : {A : Type 0} (mine other both : List A) (n m : ℕ) → n ≡ length mine → m ≡ length other → IsPrefix mine both → IsPrefix other both
    → nat_le n m ≡ true → IsPrefix mine other
front_of mine other both n m len len' p q is =
    let least : n ≤ m = grind (arith, nat_tests) in
    prefix_shorter mine other both p q (omega (arith, len, len', least))

-- what was seen is within what was taken of a list that was seen, or is longer
pub within : {A : Type 0} (mine log both : List A) (n m : ℕ) → n ≡ length mine → m ≤ length log → IsPrefix mine both → IsPrefix log both
    → (b : Bool) → nat_le n m ≡ b → MatchBool b (IsPrefix mine (take m log)) (length (take m log) < length mine)
within mine log both n m len le p q true is =
    let least : n ≤ m = grind (arith, nat_tests) in
    prefix_shorter mine (take m log) both p (prefix_trans (take m log) log both (drop m log, take-append-drop m log) q) (omega (arith, length-take-le m log le, len, least))
within mine log both n m len le p q false is =
    let more : m < n = grind (arith, nat_tests) in
    omega (arith, length-take-le m log le, len, more)
