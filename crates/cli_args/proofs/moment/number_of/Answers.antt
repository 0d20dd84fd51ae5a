use Rattle.std.proofs.Common.{ℕ, ◌<◌, ◌≤◌, ◌^◌, lit<, arith}
use Rattle.std.proofs.Math.Nat.{pow-le-pow_right}
use Rattle.cli_args.proofs.moment.number_of.Goals as goal

-- a number of fewer than 13 digits, or of at most 13
below : (n i k : ℕ) → n < 10 ^ i → i ≤ k → n < 10 ^ k
below n i k h le = omega (arith, h, pow-le-pow_right {n = 10} (lit< tt) le)

pub overflow_mul-number : goal.overflow_mul-number
overflow_mul-number c =
    let small = below c.loop-digit.number c.loop-digit.digit-index 12 c.loop-digit.invariant.bound (omega arith) in
    omega (arith, small)

pub overflow_add-number : goal.overflow_add-number
overflow_add-number c =
    let small = below c.loop-digit.number c.loop-digit.digit-index 12 c.loop-digit.invariant.bound (omega arith) in
    omega (arith, small)

pub returns-clause-bound : goal.returns-clause-bound
returns-clause-bound c =
    below c.loop-digit.number c.loop-digit.digit-index 13 c.loop-digit.invariant.bound (omega arith)
