-- Prefixes of one list.
use Rattle.std.proofs.lemmas.Bool.Decides.{nat_tests}
use Rattle.std.proofs.Common.{◌≡◌, ℕ, ◌≤◌, ◌<◌, ◌==◌, Bool, true, false, nat_le, MatchBool, List, [], ◌∷◌, ◌++◌, length, refl, ap, sym, ◌∙◌, subst, arith, append_assoc, length-append}
use Rattle.std.proofs.lemmas.List.{append-nil}
use mathlib.Core.List.{IsPrefix}

pub prefix_self : {A : Type 0} (xs : List A) → IsPrefix xs xs
prefix_self xs = ([], append-nil xs)

pub prefix_trans : {A : Type 0} (xs ys zs : List A) → IsPrefix xs ys → IsPrefix ys zs → IsPrefix xs zs
prefix_trans xs ys zs p q = (p.0 ++ q.0, sym (append_assoc xs p.0 q.0) ∙ (ap (λ w. w ++ q.0) p.1 ∙ q.1))

-- of two prefixes of one list the shorter is a prefix of the longer
pub prefix_shorter : {A : Type 0} (xs ys zs : List A) → IsPrefix xs zs → IsPrefix ys zs → length xs ≤ length ys → IsPrefix xs ys
prefix_shorter [] ys zs p q le = (ys, refl)
prefix_shorter (x ∷ xs) [] zs p q le = absurd (omega arith)
prefix_shorter (x ∷ xs) (y ∷ ys) [] p q le = absurd (cc (p.1))
prefix_shorter (x ∷ xs) (y ∷ ys) (z ∷ zs) p q le =
    let heads : x ≡ y = cc (p.1, q.1) in
    let rest = prefix_shorter xs ys zs (p.0, cc (p.1)) (q.0, cc (q.1)) (omega arith) in
    (rest.0, cc (heads, rest.1))

-- a prefix as long as the whole is the whole
pub prefix_whole : {A : Type 0} (xs ys : List A) → IsPrefix xs ys → length ys ≤ length xs → xs ≡ ys
prefix_whole [] [] p le = refl
prefix_whole [] (y ∷ ys) p le = absurd (omega arith)
prefix_whole (x ∷ xs) [] p le = absurd (cc (p.1))
prefix_whole (x ∷ xs) (y ∷ ys) p le =
    let rest = prefix_whole xs ys (p.0, cc (p.1)) (omega arith) in cc (p.1, rest)

-- of two prefixes of one list the one that isn't longer is a prefix of the other
pub front_of : {A : Type 0} (mine other again both : List A) (n m : ℕ) → n ≡ length mine → m ≡ length other → again ≡ mine → IsPrefix again both
    → IsPrefix other both → nat_le n m ≡ true → IsPrefix mine other
front_of {A} mine other again both n m len len' same p q is =
    let least : n ≤ m = grind (arith, nat_tests) in
    prefix_shorter mine other both (subst (λ (xs : List A). IsPrefix xs both) same p) q (omega (arith, len, len', least))

-- one that is longer isn't
pub shorter : {A : Type 0} (mine other : List A) (n m : ℕ) → n ≡ length mine → m ≡ length other → nat_le n m ≡ false → length other < length mine
shorter mine other n m len len' is =
    let more : m < n = grind (arith, nat_tests) in
    omega (arith, len, len', more)

-- a list whose length isn't the one that was expected of what was seen of it is longer
pub longer : {A : Type 0} (P : Type 0) (mine all : List A) (count found : ℕ) → count ≡ length mine → IsPrefix mine all
    → MatchBool (found == count) P (length all ≡ found) → (found == count) ≡ false → length mine < length all
longer {A} P mine all count found counted pre step apart =
    let long : length all ≡ found = subst (λ (b : Bool). MatchBool b P (length all ≡ found)) apart step in
    let more : length mine ≤ length all = omega (arith, sym (ap length pre.1) ∙ length-append mine pre.0) in
    grind (arith, nat_tests)
