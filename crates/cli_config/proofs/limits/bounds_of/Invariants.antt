use Rattle.std.proofs.Common.{◌≡◌, ◌++◌, map, drop}
use Rattle.mds_request.specs.Configuration.{operator}
use Rattle.cli_config.specs.Limits.{bounds_in}
use Rattle.cli_config.proofs.limits.bounds_of.Given as goal

-- those so far, and those that are left
abbrev pub invariant-loop-operator : goal.invariant-loop-operator
invariant-loop-operator l =
    l.bounds.items ++ bounds_in (map operator (drop l.operator-index l.fn.operators)) ≡ bounds_in (map operator l.fn.operators)
