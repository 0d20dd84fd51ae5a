-- The bytes of a string, one or two (an escape) at a time.
use Rattle.std.proofs.Common.{◌≡◌, ℕ, ◌+◌, ◌<◌, ◌≤◌, List, [], ◌∷◌, true, false, cond, ◌==◌, length, drop, get_or, refl, ap, ◌∙◌, arith, eq-eqb, length-drop}
use Rattle.std.proofs.lemmas.Bool.{ne_eqb}
use Rattle.std.proofs.lemmas.List.{drop_more}
use Rattle.mds_text.specs.Quoting.{string_len}

mark_ends : (a : ℕ) (s : List ℕ) → (a == 34) ≡ true → string_len (a ∷ s) ≡ 1
mark_ends a [] h = refl
mark_ends a (b ∷ s) h = ap (λ t. cond t 1 (cond (a == 92) (2 + string_len s) (1 + string_len (b ∷ s)))) h

pair_goes : (a b : ℕ) (s : List ℕ) → (a == 34) ≡ false → (a == 92) ≡ true → string_len (a ∷ b ∷ s) ≡ 2 + string_len s
pair_goes a b s h k =
    ap (λ t. cond t 1 (cond (a == 92) (2 + string_len s) (1 + string_len (b ∷ s)))) h
    ∙ ap (λ t. cond t (2 + string_len s) (1 + string_len (b ∷ s))) k

byte_goes : (a : ℕ) (s : List ℕ) → (a == 34) ≡ false → (a == 92) ≡ false → string_len (a ∷ s) ≡ 1 + string_len s
byte_goes a [] h k = refl
byte_goes a (b ∷ s) h k =
    ap (λ t. cond t 1 (cond (a == 92) (2 + string_len s) (1 + string_len (b ∷ s)))) h
    ∙ ap (λ t. cond t (2 + string_len s) (1 + string_len (b ∷ s))) k

last_goes : (a : ℕ) (s : List ℕ) → length s ≤ 0 → string_len (a ∷ s) ≡ 1 + string_len s
last_goes a [] h = refl
last_goes a (b ∷ s) h = absurd (omega arith)

pub string_len-mark : (s : List ℕ) (i : ℕ) → i < length s → get_or s i 0 ≡ 34 → string_len (drop i s) ≡ 1
string_len-mark s i within is = ap string_len (drop_more s i 0 within) ∙ mark_ends (get_or s i 0) (drop (i + 1) s) (eq-eqb (get_or s i 0) 34 is)

pub string_len-pair : (s : List ℕ) (i : ℕ) → i + 1 < length s → get_or s i 0 ≡ 92 → string_len (drop i s) ≡ 2 + string_len (drop (i + 2) s)
string_len-pair s i within is =
    let here : i < length s = omega arith in
    let next : (i + 1) + 1 ≡ i + 2 = omega arith in
    let other : get_or s i 0 ≡ 34 → ⊥ = λ e. omega arith in
    ap string_len (drop_more s i 0 here)
    ∙ ap (λ t. string_len (get_or s i 0 ∷ t)) (drop_more s (i + 1) 0 within)
    ∙ pair_goes (get_or s i 0) (get_or s (i + 1) 0) (drop ((i + 1) + 1) s) (ne_eqb (get_or s i 0) 34 other) (eq-eqb (get_or s i 0) 92 is)
    ∙ ap (λ j. 2 + string_len (drop j s)) next

pub string_len-byte : (s : List ℕ) (i : ℕ) → i < length s → (get_or s i 0 ≡ 34 → ⊥) → (get_or s i 0 ≡ 92 → ⊥) → string_len (drop i s) ≡ 1 + string_len (drop (i + 1) s)
string_len-byte s i within mark slash =
    ap string_len (drop_more s i 0 within) ∙ byte_goes (get_or s i 0) (drop (i + 1) s) (ne_eqb (get_or s i 0) 34 mark) (ne_eqb (get_or s i 0) 92 slash)

pub string_len-last : (s : List ℕ) (i : ℕ) → i < length s → length (drop (i + 1) s) ≤ 0 → string_len (drop i s) ≡ 1 + string_len (drop (i + 1) s)
string_len-last s i within last = ap string_len (drop_more s i 0 within) ∙ last_goes (get_or s i 0) (drop (i + 1) s) last

-- one iteration of the loop over a string's bytes
pub pair_turn : (s : List ℕ) (i k all : ℕ) → k ≡ 2 → i + 1 < length s → get_or s i 0 ≡ 92 → i + string_len (drop i s) ≡ all → (i + k ≤ length s) × (i + k + string_len (drop (i + k) s) ≡ all)
pair_turn s i k all two within is before =
    let step = string_len-pair s i within is in
    let same = ap (λ j. string_len (drop (i + j) s)) two in (omega arith, omega (arith, step, same))

pub byte_turn : (s : List ℕ) (i k all : ℕ) → k ≡ 1 → i < length s → (get_or s i 0 ≡ 34 → ⊥) → (get_or s i 0 ≡ 92 → ⊥) → i + string_len (drop i s) ≡ all → (i + k ≤ length s) × (i + k + string_len (drop (i + k) s) ≡ all)
byte_turn s i k all one within mark slash before =
    let step = string_len-byte s i within mark slash in
    let same = ap (λ j. string_len (drop (i + j) s)) one in (omega arith, omega (arith, step, same))

pub last_turn : (s : List ℕ) (i k all : ℕ) → k ≡ 1 → i < length s → length s ≤ i + 1 → i + string_len (drop i s) ≡ all → (i + k ≤ length s) × (i + k + string_len (drop (i + k) s) ≡ all)
last_turn s i k all one within last before =
    let step = string_len-last s i within (omega (arith, length-drop {A = ℕ} (i + 1) s)) in
    let same = ap (λ j. string_len (drop (i + j) s)) one in (omega arith, omega (arith, step, same))
