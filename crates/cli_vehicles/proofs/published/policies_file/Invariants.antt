use Rattle.std.proofs.Common.{◌≡◌, ◌++◌, map, drop, false}
use Rattle.mds_text.specs.View.{view}
use Rattle.mds_text.specs.Printed.{printed}
use Rattle.cli_vehicles.specs.Published.{joined}
use Rattle.cli_vehicles.proofs.published.policies_file.Given as goal

-- what was written and what is left are the whole list
abbrev pub invariant-loop-policy : goal.invariant-loop-policy
invariant-loop-policy l = l.out.items ++ joined printed l.later (map view (drop l.policy-index l.policies)) ≡ l.initial.out.items ++ joined printed false (map view l.policies)
