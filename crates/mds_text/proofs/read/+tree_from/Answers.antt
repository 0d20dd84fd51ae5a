use Rattle.std.proofs.Common.{◌≡◌, [], ◌∷◌, map, Ok, string_bytes, sym, ap, ◌∙◌}
use Rattle.std.specs.Vec.Iter.{into_iter_items}
use Rattle.std.proofs.lemmas.List.{map-append, nil_from_length}
use Rattle.mds_text.specs.Reading.{items_from, members_from}
use Rattle.mds_text.specs.View.{view, member_view}
use Rattle.mds_text.proofs.Conversions.{items_with, members_with, items_with-push, members_with-push, items_behind-all, members_behind-all}
use Rattle.serde_json.specs.View.{view as data_view, items_view, members_view}
use Rattle.mds_text.proofs.read.+tree_from.Goals as goal

pub list_from-loop-value-preserved : goal.list_from-loop-value-preserved
list_from-loop-value-preserved t c =
    let done = c.loop-value.found.items in
    let left = into_iter_items c.next.new.self in (
      tt,
      tt,
      ap (λ ts. items_with (map view ts) (items_from (items_view left))) c.in_ok-push.ensures.items
          ∙ ap (λ ts. items_with ts (items_from (items_view left))) (map-append view done (c.in_ok-tree_from.field-0 ∷ []))
          ∙ items_with-push (map view done) (data_view c.in-Some.value) (items_view left) (view c.in_ok-tree_from.field-0) c.in_ok-tree_from.ensures
          ∙ ap (λ vs. items_with (map view done) (items_from (items_view vs))) (sym c.in-Some.ensures.steps.0)
          ∙ c.loop-value.invariant.2,
    )

pub list_from-returns : goal.list_from-returns
list_from-returns t c =
    let done = map view c.loop-value.found.items in
    let none : into_iter_items c.loop-value.value-iterator ≡ [] = nil_from_length _ (sym c.loop-value.value-iterator.rest.ok.0 ∙ c.in-None.ensures.steps.0) in
    sym c.loop-value.invariant.2 ∙ ap (λ vs. items_with done (items_from (items_view vs))) none ∙ ap Ok (items_behind-all done)

pub object_from-loop-name-preserved : goal.object_from-loop-name-preserved
object_from-loop-name-preserved t c =
    let done = c.loop-name.found.items in
    let left = c.next.new.self in
    let name = string_bytes c.in-Some.name in (
      tt,
      tt,
      ap (λ ms. members_with (map member_view ms) (members_from (members_view left))) c.in_ok-push.ensures.items
          ∙ ap (λ ms. members_with ms (members_from (members_view left))) (map-append member_view done (_ ∷ []))
          ∙ members_with-push (map member_view done) name (data_view c.in-Some.value) (members_view left) (view c.in_ok-value.value) c.in_ok-value.ensures
          ∙ ap (λ es. members_with (map member_view done) (members_from (members_view es))) (sym c.in-Some.ensures.steps)
          ∙ c.loop-name.invariant.2,
    )

pub object_from-returns : goal.object_from-returns
object_from-returns t c =
    let done = map member_view c.loop-name.found.items in
    sym c.loop-name.invariant.2 ∙ ap (λ es. members_with done (members_from (members_view es))) c.in-None.ensures.steps.0 ∙ ap Ok (members_behind-all done)
