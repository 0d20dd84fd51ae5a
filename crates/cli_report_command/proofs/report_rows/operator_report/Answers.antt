use Rattle.std.proofs.Common.{◌≡◌, ℕ, List, [], ◌++◌, sym, ap, subst, ◌∙◌}
use Rattle.mds_catalog.specs.Catalogue.{publications_of}
use Rattle.cli_report.specs.Names.{policies_in}
use Rattle.cli_report.specs.Page.{IsSection}
use Rattle.cli_report.specs.Rows.{IsSummary, IsVerdicts, operator_view}
use Rattle.cli_report.specs.Texts.{Appends}
use Rattle.cli_report_command.proofs.report_rows.operator_report.Goals as goal

-- what is appended to nothing stands alone
alone : (IsText : List ℕ → Type 0) (old new : List ℕ) → old ≡ [] → Appends IsText old new → IsText new
alone IsText old new none h = subst IsText (sym (h.2 ∙ ap (λ s. s ++ h.0) none)) h.1

pub returns : goal.returns
returns c =
    let zone = c.args.zone.now in
    let operator = operator_view c.args.operator.now in
    let policies = policies_in (publications_of c.args.operator.now.catalogue.now) in
    let samples = c.args.operator.now.samples.now in
    record {
      verdicts =
          alone (IsVerdicts zone operator policies samples) c.new-verdicts.result.items c.push_verdicts.new.out.items
          c.new-verdicts.ensures.items c.in_ok-push_verdicts.ensures;
      summary =
          alone (IsSummary zone operator policies samples) c.new-summary.result.items c.push_summary.new.out.items
          c.new-summary.ensures.items c.in_ok-push_summary.ensures;
      page =
          alone (IsSection zone c.args.span operator policies samples) c.new-page.result.items c.push_page_operator.new.out.items
          c.new-page.ensures.items c.in_ok-push_page_operator.ensures;
    }
