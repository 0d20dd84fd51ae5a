use Rattle.std.proofs.Common.{◌≡◌, map, drop}
use Rattle.mds_text.specs.Fields.{find_member}
use Rattle.mds_text.specs.Tree.{members_of}
use Rattle.mds_text.specs.View.{member_view}
use Rattle.server_settings.proofs.settings.find_member.Given as goal

-- what was passed has another name
abbrev pub invariant-loop-member : goal.invariant-loop-member
invariant-loop-member l =
    find_member l.name (members_of (map member_view (drop l.member-index l.members)))
    ≡ find_member l.name (members_of (map member_view l.members))
