use Rattle.std.proofs.Common.{Option, subst, sym, ◌∙◌}
use Rattle.std.specs.Option.{IfSome}
use Rattle.mds_bitmaps.specs.Index.{IsChanged, IsListed, Published, Vehicles}
use Rattle.mds_bitmaps.specs.declared.bitmap_index.IndexedFleet.{IndexedFleet}
use Rattle.mds_bitmaps.proofs.Keeping.{if_some_as}
use Rattle.mds_bitmaps.proofs.bitmap_index.BitmapIndex.note.Goals as goal

pub returns-in-Some : goal.returns-in-Some
returns-in-Some c published before after changes fits =
    let listed = c.in-Some.listed in
    let is : IsListed published before listed = subst (λ (o : Option IndexedFleet). IfSome o (IsListed published before)) (sym c.take.ensures.value ∙ c.in-Some.is) fits in
    if_some_as c.with_change.result
    (λ (new : IndexedFleet). (other : Published) (old now : Vehicles) → IsChanged c.args.device old now → IsListed other old listed → IsListed other now new)
    (IsListed published after) (λ new keeps. keeps published before after changes is) c.with_change.ensures
