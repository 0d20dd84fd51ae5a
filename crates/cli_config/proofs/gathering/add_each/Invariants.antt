use Rattle.std.proofs.Common.{◌≡◌, ◌++◌, length, map}
use Rattle.cli_config.specs.Findings.{found_from, told}
use Rattle.cli_config.specs.LocatedMembers.{seen}
use Rattle.cli_config.proofs.gathering.add_each.Given as goal

-- the findings so far, and those for the members that are left
abbrev pub invariant-loop-spot : goal.invariant-loop-spot
invariant-loop-spot l =
    map told l.findings.items ++ found_from l.fn.text l.fn.errors.wrong l.fn.errors.zone l.fn.errors.page (map seen l.rest)
    ≡ map told l.fn.findings.items ++ found_from l.fn.text l.fn.errors.wrong l.fn.errors.zone l.fn.errors.page (map seen l.fn.spots)

abbrev pub decreases-loop-spot : goal.decreases-loop-spot
decreases-loop-spot l = length l.rest
