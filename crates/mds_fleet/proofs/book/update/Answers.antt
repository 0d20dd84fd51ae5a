use Rattle.std.proofs.Common.{◌≡◌, ◌≤◌, ℕ, false, sym, ◌∙◌, arith}
use Rattle.std.specs.Ordering.{is_gt, nat_cmp}
use Rattle.std.proofs.lemmas.Bool.{false≢true}
use Rattle.std.proofs.lemmas.Bool.Decides.{nat_tests}
use Rattle.mds_match.specs.Row.{row_of}
use Rattle.mds_fleet.specs.Books.{report_document}
use Rattle.mds_fleet.proofs.Determined.{at_same, at_changed}
use Rattle.mds_fleet.proofs.book.update.Goals as goal

-- a time that isn't greater
in_order : (a b : ℕ) → false ≡ is_gt (nat_cmp a b) → a ≤ b
in_order a b h = grind (arith, nat_tests)

pub returns-then-is_reported-clause-outcome : goal.returns-then-is_reported-clause-outcome
returns-then-is_reported-clause-outcome c held limit =
    at_same (row_of c.args.vehicle.now) held limit (report_document c.args.report) (in_order _ _ c.if-gt.ensures) (c.is_reported.ensures.0 c.if-is_reported.true)

pub returns-clause-outcome : goal.returns-clause-outcome
returns-clause-outcome c held limit =
    at_changed (row_of c.args.vehicle.now) held limit (report_document c.args.report) (in_order _ _ c.if-gt.ensures) (λ same. false≢true (sym c.if-is_reported.false ∙ c.is_reported.ensures.1 same))
