use Rattle.std.proofs.Common.{◌≡◌, map, take}
use Rattle.mds_text.specs.View.{view, member_view}
use Rattle.mds_json.specs.Node.{node_view, node_member_view}
use Rattle.mds_json.proofs.own.+lend.Given as goal

abbrev pub invariant-lend_list-loop-entry : goal.invariant-lend_list-loop-entry
invariant-lend_list-loop-entry l = map node_view l.lent.items ≡ map view (take l.entry-index l.entries)

abbrev pub invariant-lend_members-loop-member : goal.invariant-lend_members-loop-member
invariant-lend_members-loop-member l = map node_member_view l.lent.items ≡ map member_view (take l.member-index l.members)
