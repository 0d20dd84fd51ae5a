-- What the files of a report begin with, and what they say of an operator: rows of what the journals tell of it, whichever
-- operators are worked out meanwhile.
use Rattle.std.specs.Prelude.{◌≡◌, ℕ, List, length, map, slice_get, Some, option_map}
use Rattle.mds_match.specs.Zone.{ZoneKind}
use Rattle.mds_policy.specs.Policy.{Policy}
use Rattle.mds_request.specs.Configuration.{configuration}
use Rattle.journal_entry.specs.Entries.{entry_of}
use Rattle.journal_samples.specs.Standing.{new_standing}
use Rattle.journal_samples.specs.declared.sample.RuleSample.{RuleSample}
use Rattle.cli_report.specs.Page.{Head, IsSection, head_pieces}
use Rattle.cli_report.specs.Pieces.{IsWritten}
use Rattle.cli_report.specs.Rows.{IsSummary, IsVerdicts, Operator, summary_header, verdict_header}
use Rattle.cli_report.specs.declared.reported.ReportSpan.{ReportSpan}
use Rattle.cli_report_command.specs.Reports.{samples_told}
use Rattle.cli_report_command.specs.declared.report_files.ReportBytes.{ReportBytes}
use Rattle.cli_report_command.specs.declared.report_operators.OperatorPart.{OperatorPart}
use Rattle.cli_report_command.specs.declared.report_operators.ReportSource.{ReportSource}

-- the bytes of the three files are those in front of all operators
pub record IsHeadOf (zone : ZoneKind) (head : Head) (bytes : ReportBytes) : Type 0 where
  pub verdicts : bytes.verdicts.items ≡ verdict_header
  pub summary : bytes.summary.items ≡ summary_header
  pub page : IsWritten zone (head_pieces head) bytes.page.items

-- they are those of an operator's samples
pub record IsReportOf (zone : ZoneKind) (span : ReportSpan) (operator : Operator) (policies : List Policy) (samples : List RuleSample) (bytes : ReportBytes) : Type 0 where
  pub verdicts : IsVerdicts zone operator policies samples bytes.verdicts.items
  pub summary : IsSummary zone operator policies samples bytes.summary.items
  pub page : IsSection zone span operator policies samples bytes.page.items

-- what the journals of a report tell of the operator at a place of the configuration
abbrev pub told_of : ReportSource → ℕ → List RuleSample
told_of source place =
    samples_told (new_standing (configuration source.config.now) place)
    (map (λ j. map entry_of j.entries.items) source.journals.now) source.moments.now

-- a part is of the operator at a place: of what the journals tell of it, under its identifier
pub record IsPartOf (source : ReportSource) (place : ℕ) (part : OperatorPart) : Type 0 where
  pub operator : Operator
  pub policies : List Policy
  pub named : option_map (λ o. o.id) (slice_get (configuration source.config.now).operators place) ≡ Some operator.id
  pub says : IsReportOf (configuration source.config.now).zone source.head.span operator policies (told_of source place) part.bytes
  pub counted : part.samples ≡ length (told_of source place)
