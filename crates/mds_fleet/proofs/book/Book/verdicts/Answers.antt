use Rattle.std.proofs.Common.{◌≡◌, map, refl, sym, ap, subst, IfSome, ◌∙◌}
use Rattle.std.specs.FinMap as finite
use Rattle.mds_policy.specs.Policy.{policy_document}
use Rattle.mds_verdict.specs.Verdict.{verdict_document, verdicts}
use Rattle.mds_bitmaps.specs.Index.{rows_in}
use Rattle.mds_fleet.specs.Fleet.{Fits, rows_of}
use Rattle.mds_fleet.proofs.Fitting.{fits_book}
use Rattle.mds_fleet.proofs.Rows.{values_rows}
use Rattle.mds_fleet.proofs.book.Book.verdicts.Goals as goal

pub returns-clause-exact : goal.returns-clause-exact
returns-clause-exact g c =
    let vehicles = c.self.inside.vehicles in
    let policy = policy_document c.args.policy.now in
    let polygons = g.P.Places.polygons c.args.places.now in
    let rows : rows_in vehicles ≡ finite.values c.args.self.now.rows = sym (values_rows vehicles c.self.invariant.ordered) ∙ ap (λ b. finite.values b.rows) c.self.view_is in
    subst (λ rs. IfSome c.verdicts.result (λ found. map verdict_document found.items ≡ verdicts policy polygons rs c.args.local c.args.moment)) rows c.verdicts.ensures.exact

pub returns-clause-fits : goal.returns-clause-fits
returns-clause-fits g c published fits asked =
    let vehicles = c.self.inside.vehicles in
    let fitted = subst (Fits published) (sym c.self.view_is) fits vehicles c.self.invariant.ordered refl in
    fits_book published vehicles (record { rows = rows_of vehicles; limit = c.self.inside.limit; kept = c.verdicts.new.self }) c.self.invariant.ordered refl (c.verdicts.ensures.kept published fitted asked)
