use Rattle.std.proofs.Common.{◌≡◌, map}
use Rattle.std.specs.Vec.Iter.{into_iter_items}
use Rattle.mds_text.specs.Reading.{items_from, members_from}
use Rattle.mds_text.specs.View.{view, member_view}
use Rattle.mds_text.proofs.Conversions.{items_with, members_with}
use Rattle.serde_json.specs.View.{items_view, members_view}
use Rattle.mds_text.proofs.read.+tree_from.Given as goal

-- what was converted and what is left are the whole list
abbrev pub invariant-list_from-loop-value : goal.invariant-list_from-loop-value
invariant-list_from-loop-value l =
    (goal.iterator-list_from-loop-value).can_next l.value-iterator × (goal.iterator-list_from-loop-value).is_finite l.value-iterator
    × (items_with (map view l.found.items) (items_from (items_view (into_iter_items l.value-iterator))) ≡ items_from (items_view l.fn.values.items))

abbrev pub invariant-object_from-loop-name : goal.invariant-object_from-loop-name
invariant-object_from-loop-name l =
    (goal.iterator-object_from-loop-name).can_next l.name-iterator × (goal.iterator-object_from-loop-name).is_finite l.name-iterator
    × (members_with (map member_view l.found.items) (members_from (members_view l.name-iterator)) ≡ members_from (members_view l.fn.members.entries))
