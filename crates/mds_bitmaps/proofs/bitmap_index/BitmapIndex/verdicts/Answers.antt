use Rattle.std.proofs.Common.{◌≡◌, ℕ, List, Option, map, subst, sym, ◌∙◌, arith}
use Rattle.std.specs.declared.alloc.Global.{Global}
use Rattle.std.specs.declared.vec.Vec.{Vec}
use Rattle.std.specs.Option.{IfSome}
use Rattle.mds_geometry.specs.declared.position.Position.{Position}
use Rattle.mds_policy.specs.Policy.{policy_document}
use Rattle.mds_match.specs.Row.{Row}
use Rattle.mds_bitmaps.specs.Masks.{IsMask}
use Rattle.mds_verdict.specs.Verdict.{verdict_document, verdicts}
use Rattle.mds_verdict.specs.declared.verdict.RuleVerdict.{RuleVerdict}
use Rattle.mds_bitmaps.specs.Columns.{AreOf}
use Rattle.mds_bitmaps.specs.Index.{AreRead, IsListed, IsSince, rows_in}
use Rattle.mds_bitmaps.specs.declared.bitmap_index.IndexedFleet.{IndexedFleet}
use Rattle.mds_bitmaps.proofs.Keeping.{asked_column, columns_of, fresh_column, if_ok_as, lasts}
use Rattle.mds_bitmaps.proofs.bitmap_index.BitmapIndex.verdicts.Goals as goal

pub refresh_column-requires-clause-seen : goal.refresh_column-requires-clause-seen
refresh_column-requires-clause-seen g c =
    let policy = policy_document c.args.policy.now in
    let polygons = g.P.Places.polygons c.args.places.now in
    let vehicles = c.args.vehicles.now in
    let published = c.requires.asked.0 in
    let listed = c.in_ok-listed-2.listed in
    let kept = subst (λ (o : Option IndexedFleet). IfSome o (IsListed published vehicles)) (sym c.take.ensures.value) c.requires.asked.1 in
    let is : IsListed published vehicles listed = c.in_ok-listed-2.ensures.kept published (c.in_ok-listed.ensures.kept published kept) in
    (c.take_column-column.ensures.kept published vehicles listed.devices.items listed.changed.items (omega (arith, c.len-2.ensures)) (lasts published policy polygons c.requires.asked.2 c.id-2.result c.id-2.ensures) is.columns).1.seen

pub refresh_column-requires-clause-kept : goal.refresh_column-requires-clause-kept
refresh_column-requires-clause-kept g c =
    let policy = policy_document c.args.policy.now in
    let polygons = g.P.Places.polygons c.args.places.now in
    let vehicles = c.args.vehicles.now in
    let published = c.requires.asked.0 in
    let listed = c.in_ok-listed-2.listed in
    let kept = subst (λ (o : Option IndexedFleet). IfSome o (IsListed published vehicles)) (sym c.take.ensures.value) c.requires.asked.1 in
    let is : IsListed published vehicles listed = c.in_ok-listed-2.ensures.kept published (c.in_ok-listed.ensures.kept published kept) in
    let parts = c.take_column-column.ensures.kept published vehicles listed.devices.items listed.changed.items (omega (arith, c.len-2.ensures)) (lasts published policy polygons c.requires.asked.2 c.id-2.result c.id-2.ensures) is.columns in
    asked_column published policy polygons c.requires.asked.2 vehicles listed.devices.items listed.changed.items c.take_column-column.result (c.take_column-column.ensures.policy ∙ c.id-2.ensures) parts.1

pub verdicts_by-found-requires-clause-columns : goal.verdicts_by-found-requires-clause-columns
verdicts_by-found-requires-clause-columns g c =
    let policy = policy_document c.args.policy.now in
    let polygons = g.P.Places.polygons c.args.places.now in
    let vehicles = c.args.vehicles.now in
    let sinces = subst (AreRead IsSince (rows_in vehicles)) (sym c.deref-2.ensures.value) c.in_ok-listed-2.ensures.sinces in
    let masks = subst (AreRead (λ row word. IsMask policy polygons row word) (rows_in vehicles)) (sym c.deref-3.ensures.value) c.in_ok-column.ensures.masks in
    (polygons, rows_in vehicles, columns_of vehicles c.len.ensures.ordered c.requires.own policy polygons c.deref.result.now c.deref-2.result.now c.deref-3.result.now (c.deref.ensures.value ∙ c.in_ok-listed-2.ensures.devices) sinces masks)

pub returns-clause-exact : goal.returns-clause-exact
returns-clause-exact g c =
    let policy = policy_document c.args.policy.now in
    let polygons = g.P.Places.polygons c.args.places.now in
    let vehicles = c.args.vehicles.now in
    let rows = rows_in vehicles in
    let devices = c.deref.result.now in
    let sinces = subst (AreRead IsSince rows) (sym c.deref-2.ensures.value) c.in_ok-listed-2.ensures.sinces in
    let masks = subst (AreRead (λ row word. IsMask policy polygons row word) rows) (sym c.deref-3.ensures.value) c.in_ok-column.ensures.masks in
    let are = columns_of c.args.vehicles.now c.len.ensures.ordered c.requires.own policy polygons devices c.deref-2.result.now c.deref-3.result.now (c.deref.ensures.value ∙ c.in_ok-listed-2.ensures.devices) sinces masks in
    let Exact : Vec RuleVerdict Global → Type 0 = λ found. map verdict_document found.items ≡ verdicts policy polygons rows c.args.at.local c.args.at.moment in
    subst (λ o. IfSome o Exact) (sym c.ok.ensures.value)
    (if_ok_as c.verdicts_by-found.result
    (λ found. (places : List ℕ → List (List (List Position))) (others : List Row) → AreOf policy places others devices c.deref-2.result.now c.deref-3.result.now → map verdict_document found.items ≡ verdicts policy places others c.args.at.local c.args.at.moment)
    Exact (λ found exact. exact polygons rows are) c.verdicts_by-found.ensures.exact)

pub returns-clause-kept : goal.returns-clause-kept
returns-clause-kept g c published fits asked =
    let policy = policy_document c.args.policy.now in
    let polygons = g.P.Places.polygons c.args.places.now in
    let vehicles = c.args.vehicles.now in
    let listed = c.in_ok-listed-2.listed in
    let kept = subst (λ (o : Option IndexedFleet). IfSome o (IsListed published vehicles)) (sym c.take.ensures.value) fits in
    let is : IsListed published vehicles listed = c.in_ok-listed-2.ensures.kept published (c.in_ok-listed.ensures.kept published kept) in
    let parts = c.take_column-column.ensures.kept published vehicles listed.devices.items listed.changed.items (omega (arith, c.len-2.ensures)) (lasts published policy polygons asked c.id-2.result c.id-2.ensures) is.columns in
    let column = fresh_column published policy polygons asked vehicles c.len.ensures.ordered listed.devices.items listed.changed.items is.devices c.in_ok-column.column (c.in_ok-column.ensures.policy ∙ c.take_column-column.ensures.policy ∙ c.id-2.ensures) c.in_ok-column.ensures.seen c.in_ok-column.ensures.masks in
    c.put_back.ensures published vehicles (record { devices = is.devices; seen = is.seen; sinces = is.sinces; columns = parts.0 }) column
