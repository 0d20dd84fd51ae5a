use Rattle.std.proofs.Common.{Option, subst, sym, ◌∙◌}
use Rattle.std.specs.Option.{IfSome}
use Rattle.mds_bitmaps.specs.Index.{IsListed}
use Rattle.mds_bitmaps.specs.declared.bitmap_index.IndexedFleet.{IndexedFleet}
use Rattle.mds_bitmaps.proofs.bitmap_index.BitmapIndex.arrive.Goals as goal

pub returns-in-Some-with_arrival : goal.returns-in-Some-with_arrival
returns-in-Some-with_arrival c published before after ordered arrives fits =
    let is : IsListed published before c.in-Some.listed = subst (λ (o : Option IndexedFleet). IfSome o (IsListed published before)) (sym c.take.ensures.value ∙ c.in-Some.is) fits in
    c.in-Some-with_arrival.ensures.fits published before after ordered arrives is
