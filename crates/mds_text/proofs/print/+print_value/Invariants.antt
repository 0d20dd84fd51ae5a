use Rattle.std.proofs.Common.{◌≡◌, ◌++◌, map, drop, false}
use Rattle.mds_text.specs.Printed.{printed_items, printed_members}
use Rattle.mds_text.specs.Tree.{items_of, members_of}
use Rattle.mds_text.specs.View.{view, member_view}
use Rattle.mds_text.proofs.print.+print_value.Given as goal

-- what was printed and what is left are the whole list
abbrev pub invariant-print_list-loop-item : goal.invariant-print_list-loop-item
invariant-print_list-loop-item l =
    l.out.items ++ printed_items l.later (items_of (map view (drop l.item-index l.items))) ≡ l.initial.out.items ++ printed_items false (items_of (map view l.items))

abbrev pub invariant-print_object-loop-member : goal.invariant-print_object-loop-member
invariant-print_object-loop-member l =
    l.out.items ++ printed_members l.later (members_of (map member_view (drop l.member-index l.members))) ≡ l.initial.out.items ++ printed_members false (members_of (map member_view l.members))
