use Rattle.std.proofs.Common.{◌≡◌, map, drop}
use Rattle.cli_config.specs.Members.{stands_in_document}
use Rattle.cli_config.specs.LocatedMembers.{seen}
use Rattle.cli_config.proofs.member_finding.stands_in_document.Given as goal

-- the name stands among those that are left, if it stands among all
abbrev pub invariant-loop-spot : goal.invariant-loop-spot
invariant-loop-spot l = stands_in_document l.fn.name (map seen (drop l.spot-index l.fn.spots)) ≡ stands_in_document l.fn.name (map seen l.fn.spots)
