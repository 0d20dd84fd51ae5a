use Rattle.std.proofs.Common.{◌≡◌, None, map, drop}
use Rattle.cli_config.specs.Paths.{last_meant}
use Rattle.cli_config.specs.LocatedMembers.{seen}
use Rattle.cli_config.proofs.paths.last_value.Given as goal

-- the last so far, and then those that are left
abbrev pub invariant-loop-spot : goal.invariant-loop-spot
invariant-loop-spot l = last_meant l.fn.path l.found (map seen (drop l.spot-index l.fn.spots)) ≡ last_meant l.fn.path None (map seen l.fn.spots)
