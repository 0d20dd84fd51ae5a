use Rattle.std.proofs.Common.{◌≡◌, ◌++◌, ◌<◌, ◌^◌, ℕ}
use Rattle.mds_text.specs.Printed.{decimals}
use Rattle.mds_text.proofs.print.print_fraction.Given as goal

-- what was printed and the decimals of the rest are all decimals
abbrev pub invariant-loop-rest : goal.invariant-loop-rest
invariant-loop-rest l =
    (places : ℕ) × (l.unit ≡ 10 ^ places) × (l.rest < 10 ^ places) × (l.out.items ++ decimals places l.rest ≡ l.initial.out.items ++ decimals 7 l.initial.rest)

abbrev pub decreases-loop-rest : goal.decreases-loop-rest
decreases-loop-rest l = l.unit
