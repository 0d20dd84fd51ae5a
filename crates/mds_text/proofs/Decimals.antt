-- The decimals of a fraction, printed one after another.
use Rattle.std.proofs.Common.{◌≡◌, ℕ, zero, suc, ◌+◌, ◌/◌, ◌%◌, ◌^◌, ◌<◌, ◌≤◌, List, [], ◌∷◌, ◌++◌, cond, refl, sym, ap, subst, ◌∙◌, arith, append_assoc, append-nil}
use Rattle.std.proofs.Math.Nat.{pow-suc, mul-div_cancel, mod-lt}
use Rattle.std.proofs.lemmas.Bool.{ne_eqb}
use Rattle.mds_text.specs.Printed.{decimals, fraction}

pub ten_pos : (k : ℕ) → 0 < 10 ^ k
ten_pos zero = omega arith
ten_pos (suc k) = let below = ten_pos k in omega (arith, pow-suc 10 k)

-- where something is left, a place is left
pub place_left : (places rest : ℕ) → 0 < rest → rest < 10 ^ places → (p : ℕ) × (places ≡ suc p)
place_left zero rest some few = absurd (omega arith)
place_left (suc p) rest some few = (p, refl)

pub tenth : (p : ℕ) → 10 ^ suc p / 10 ≡ 10 ^ p
tenth p = ap (λ n. n / 10) (pow-suc 10 p) ∙ mul-div_cancel (10 ^ p) (omega arith)

pub decimals-suc : (p rest : ℕ) → 0 < rest → decimals (suc p) rest ≡ (48 + rest / 10 ^ p) ∷ decimals p (rest % 10 ^ p)
unfolding decimals
decimals-suc p rest some = ap (λ b. cond b [] ((48 + rest / 10 ^ p) ∷ decimals p (rest % 10 ^ p))) (ne_eqb rest 0 (λ e. omega arith))

pub decimals-none : (places : ℕ) → decimals places 0 ≡ []
unfolding decimals
decimals-none zero = refl
decimals-none (suc places) = refl

turn_at : (p rest u : ℕ) (done more all : List ℕ) → 0 < rest → u ≡ 10 ^ p → more ≡ done ++ (48 + rest / u) ∷ [] → done ++ decimals (suc p) rest ≡ all
    → (rest % u < 10 ^ p) × (more ++ decimals p (rest % u) ≡ all)
turn_at p rest u done more all some is grown before =
    let small = mod-lt rest (ten_pos p) in (
      subst (λ k. rest % k < 10 ^ p) (sym is) small,
      ap (λ xs. xs ++ decimals p (rest % u)) grown
          ∙ append_assoc done ((48 + rest / u) ∷ []) (decimals p (rest % u))
          ∙ ap (λ k. done ++ (48 + rest / k) ∷ decimals p (rest % k)) is
          ∙ ap (λ xs. done ++ xs) (sym (decimals-suc p rest some))
          ∙ before,
    )

-- one iteration of the loop that prints them: the unit before it, and what is printed before and after it
pub decimals-turn : (places unit rest : ℕ) (done more all : List ℕ) → 0 < rest → unit ≡ 10 ^ places → rest < 10 ^ places → more ≡ done ++ (48 + rest / (unit / 10)) ∷ [] → done ++ decimals places rest ≡ all
    → (p : ℕ) × (unit / 10 ≡ 10 ^ p) × (rest % (unit / 10) < 10 ^ p) × (more ++ decimals p (rest % (unit / 10)) ≡ all)
decimals-turn places unit rest done more all some is few grown before =
    let left = place_left places rest some few in
    let p = left.0 in
    let next : unit / 10 ≡ 10 ^ p = ap (λ n. n / 10) (is ∙ ap (λ k. 10 ^ k) left.1) ∙ tenth p in
    let step = turn_at p rest (unit / 10) done more all some next grown (ap (λ k. done ++ decimals k rest) (sym left.1) ∙ before) in (p, next, step.0, step.1)

-- a place is left, so the next unit isn't zero
pub tenth_pos : (places unit rest : ℕ) → 0 < rest → unit ≡ 10 ^ places → rest < 10 ^ places → 0 < unit / 10
tenth_pos places unit rest some is few =
    let left = place_left places rest some few in
    subst (λ u. 0 < u) (sym (ap (λ n. n / 10) (is ∙ ap (λ k. 10 ^ k) left.1) ∙ tenth left.0)) (ten_pos left.0)

-- the loop's end: nothing is left, and what was printed is the fraction
pub decimals-end : (places rest whole : ℕ) (start pushed out : List ℕ) → rest ≤ 0 → (whole ≡ 0 → ⊥) → pushed ≡ start ++ 46 ∷ [] → out ++ decimals places rest ≡ pushed ++ decimals 7 whole → out ≡ start ++ fraction whole
decimals-end places rest whole start pushed out none some point all =
    let zero_left : rest ≡ 0 = omega arith in
    sym (append-nil out) ∙ ap (λ xs. out ++ xs) (sym (decimals-none places)) ∙ ap (λ k. out ++ decimals places k) (sym zero_left) ∙ all
    ∙ ap (λ xs. xs ++ decimals 7 whole) point
    ∙ append_assoc start (46 ∷ []) (decimals 7 whole)
    ∙ ap (λ b. start ++ cond b [] (46 ∷ decimals 7 whole)) (sym (ne_eqb whole 0 some))
