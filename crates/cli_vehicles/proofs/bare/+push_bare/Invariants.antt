use Rattle.std.proofs.Common.{◌≡◌, ◌++◌, map, drop, false}
use Rattle.mds_text.specs.Tree.{items_of, members_of}
use Rattle.mds_text.specs.View.{view, member_view}
use Rattle.cli_vehicles.specs.Published.{bare_items, bare_members}
use Rattle.cli_vehicles.proofs.bare.+push_bare.Given as goal

-- what was written and what is left are the whole list
abbrev pub invariant-push_bare_list-loop-item : goal.invariant-push_bare_list-loop-item
invariant-push_bare_list-loop-item l =
    l.out.items ++ bare_items l.later (items_of (map view (drop l.item-index l.items))) ≡ l.initial.out.items ++ bare_items false (items_of (map view l.items))

abbrev pub invariant-push_bare_object-loop-member : goal.invariant-push_bare_object-loop-member
invariant-push_bare_object-loop-member l =
    l.out.items ++ bare_members l.later (members_of (map member_view (drop l.member-index l.members))) ≡ l.initial.out.items ++ bare_members false (members_of (map member_view l.members))
