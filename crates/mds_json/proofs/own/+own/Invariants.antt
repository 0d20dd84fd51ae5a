use Rattle.std.proofs.Common.{◌≡◌, map, take}
use Rattle.mds_text.specs.View.{view, member_view}
use Rattle.mds_json.specs.Node.{node_view, node_member_view}
use Rattle.mds_json.proofs.own.+own.Given as goal

abbrev pub invariant-own_list-loop-entry : goal.invariant-own_list-loop-entry
invariant-own_list-loop-entry l = map view l.owned.items ≡ map node_view (take l.entry-index l.entries)

abbrev pub invariant-own_members-loop-member : goal.invariant-own_members-loop-member
invariant-own_members-loop-member l = map member_view l.owned.items ≡ map node_member_view (take l.member-index l.members)
