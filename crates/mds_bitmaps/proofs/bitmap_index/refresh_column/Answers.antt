use Rattle.mds_policy.specs.Policy.{policy_document}
use Rattle.mds_bitmaps.specs.Masks.{IsMask}
use Rattle.mds_bitmaps.specs.Index.{IsMaskBy, rows_in}
use Rattle.mds_bitmaps.proofs.Keeping.{few_rules, from_masked, read_as}
use Rattle.mds_bitmaps.proofs.bitmap_index.refresh_column.Goals as goal

pub invariant_of-mask : goal.invariant_of-mask
invariant_of-mask g c = record { few = few_rules c.in-Ok.rules (policy_document c.args.policy.now) (g.P.Places.polygons c.args.places.now) c.in-Ok.ensures c.requires.few }

pub returns-clause-masks : goal.returns-clause-masks
returns-clause-masks g c =
    let policy = policy_document c.args.policy.now in
    let polygons = g.P.Places.polygons c.args.places.now in
    read_as (IsMaskBy c.in-Ok.rules) (λ row word. IsMask policy polygons row word) (rows_in c.args.vehicles.now) c.in_ok-masks.masks.items
    (from_masked c.in-Ok.rules policy polygons c.in-Ok.ensures) c.in_ok-masks.ensures
