use Rattle.std.proofs.Common.{◌≡◌, drop}
use Rattle.cli_config.specs.Grammar.{fault_from, fresh, standing}
use Rattle.cli_config.proofs.grammar.fault_at.Given as goal

-- the rest stops where the whole does
abbrev pub invariant-loop-place : goal.invariant-loop-place
invariant-loop-place l = fault_from l.fn.text (standing l.stand) (drop l.place l.fn.marks) ≡ fault_from l.fn.text fresh l.fn.marks
