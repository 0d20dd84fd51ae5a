use Rattle.std.proofs.Common.{◌≡◌, drop, map}
use Rattle.std.specs.Prelude.{bytes_eq, find}
use Rattle.cli_report.specs.Names.{tree_policy}
use Rattle.cli_report.proofs.names.find_policy.Given as goal

-- the first one is among those that are left
abbrev pub invariant-loop-known : goal.invariant-loop-known
invariant-loop-known l =
    find (λ p. bytes_eq p.id l.id) (map tree_policy (drop l.known-index l.trees)) ≡ find (λ p. bytes_eq p.id l.id) (map tree_policy l.trees)
