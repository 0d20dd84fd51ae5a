-- Chunks that are joined.
use Rattle.std.proofs.Common.{◌≡◌, ℕ, ◌+◌, ◌<◌, zero, suc, List, ◌++◌, refl, sym, ap, subst, ◌∙◌, append_assoc, arith}
use Rattle.std.specs.Prelude.{Option, Some}
use Rattle.std.proofs.lemmas.List.{append-nil}
use Rattle.journal_remote.specs.Joined.{Joins, JoinsFrom}

-- chunks with more chunks behind them
pub joins_on : (chunk : ℕ → Option (List ℕ)) (m n : ℕ) (bytes more : List ℕ) → Joins chunk m bytes
    → JoinsFrom chunk m n more → Joins chunk (m + n) (bytes ++ more)
joins_on chunk m zero bytes more one two =
    let e : m ≡ m + zero = omega arith in
    subst (λ (j : ℕ). Joins chunk j (bytes ++ more)) e
    (subst (Joins chunk m) (sym (ap (λ (b : List ℕ). bytes ++ b) two ∙ append-nil bytes)) one)
joins_on chunk m (suc n) bytes more one two =
    let front = two.0 in
    let last = two.1 in
    let joined = joins_on chunk m n bytes front one two.2 in
    let is : bytes ++ more ≡ (bytes ++ front) ++ last = ap (λ (b : List ℕ). bytes ++ b) two.4 ∙ sym
    (append_assoc bytes front last) in
    let step : Joins chunk (suc (m + n)) (bytes ++ more) = (bytes ++ front, last, joined, two.3, is) in
    let e : suc (m + n) ≡ m + suc n = omega arith in
    subst (λ (j : ℕ). Joins chunk j (bytes ++ more)) e step

-- with one chunk behind them
pub joins_one : (chunk : ℕ → Option (List ℕ)) (n : ℕ) (bytes last : List ℕ) → Joins chunk n bytes
    → chunk n ≡ Some last → Joins chunk (suc n) (bytes ++ last)
joins_one chunk n bytes last one two = (bytes, last, one, two, refl)

-- where the first chunks are the same
pub joins_same : (chunk other : ℕ → Option (List ℕ)) (n : ℕ) (bytes : List ℕ)
    → ((i : ℕ) → i < n → other i ≡ chunk i) → Joins chunk n bytes → Joins other n bytes
joins_same chunk other zero bytes same one = one
joins_same chunk other (suc n) bytes same one = (
  one.0,
  one.1,
  joins_same chunk other n one.0 (λ i less. same i (omega arith)) one.2,
  same n (omega arith) ∙ one.3,
  one.4,
)
