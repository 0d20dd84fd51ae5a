use Rattle.std.proofs.Common.{◌≡◌, cond, ap, sym, ◌∙◌}
use Rattle.std.specs.Str.{bytes_eq}
use Rattle.mds_match.specs.Row.{row_of}
use Rattle.mds_fleet.specs.Books.{report_document}
use Rattle.mds_fleet.proofs.book.run_start.Goals as goal

-- the states are equal
pub returns-then-eq : goal.returns-then-eq
returns-then-eq c =
    let row = row_of c.args.vehicle.now in
    let report = report_document c.args.report.now in
    let states : bytes_eq c.state.result c.state-2.result ≡ bytes_eq row.state report.state = λ i. bytes_eq (c.state.ensures i) (c.state-2.ensures i) in
    sym (ap (λ b. cond b row.since report.timestamp) (sym states ∙ sym c.eq.ensures ∙ c.if-eq.true))
