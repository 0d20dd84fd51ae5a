use Rattle.std.proofs.Common.{◌≡◌, map, take}
use Rattle.mds_text.specs.View.{view, member_view}
use Rattle.mds_text.proofs.make.+copy_tree.Given as goal

abbrev pub invariant-copy_list-loop-entry : goal.invariant-copy_list-loop-entry
invariant-copy_list-loop-entry l = map view l.copies.items ≡ map view (take l.entry-index l.entries)

abbrev pub invariant-copy_members-loop-member : goal.invariant-copy_members-loop-member
invariant-copy_members-loop-member l = map member_view l.copies.items ≡ map member_view (take l.member-index l.members)
