use Rattle.mds_bitmaps.specs.Index.{IsListed, Published}
use Rattle.std.specs.Option.{IfSome}
use Rattle.mds_bitmaps.specs.declared.bitmap_index.IndexedFleet.{IndexedFleet}
use Rattle.mds_bitmaps.proofs.Keeping.{if_some_as}
use Rattle.mds_bitmaps.proofs.bitmap_index.fleet_or_new.Goals as goal

pub returns-in-None-clause-kept : goal.returns-in-None-clause-kept
returns-in-None-clause-kept c =
    let vehicles = c.args.vehicles.now in
    if_some_as c.without_columns.result (λ (new : IndexedFleet). (published : Published) → IsListed published vehicles new)
    (λ (new : IndexedFleet). (published : Published) → IfSome c.args.kept (IsListed published vehicles) → IsListed published vehicles new) (λ new all published any. all published) c.without_columns.ensures.kept
