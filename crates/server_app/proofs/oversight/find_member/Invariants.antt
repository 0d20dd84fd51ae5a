use Rattle.std.proofs.Common.{◌≡◌, map, drop}
use Rattle.mds_text.specs.Fields.{find_member}
use Rattle.mds_text.specs.Tree.{members_of}
use Rattle.mds_json.specs.Node.{node_member_view}
use Rattle.server_app.proofs.oversight.find_member.Given as goal

-- the members before have other names
abbrev pub invariant-loop-member : goal.invariant-loop-member
invariant-loop-member l = find_member l.name (members_of (map node_member_view (drop l.member-index l.members))) ≡ find_member l.name (members_of (map node_member_view l.members))
