-- Why no report is made, where its journals aren't why.
use Rattle.std.specs.Prelude.{ℕ, nat_lt, List, codes, if◌then◌else◌, Option, Some, None, Result, Ok, Err}
use Rattle.cli_journal.specs.declared.report_fault.ReportFile.{ReportFile}
use Rattle.cli_journal.specs.declared.report_fault.ReportFile.TheVariants.{Verdicts, Summary, Page}
use Rattle.cli_journal.specs.declared.report_fault.ReportFault.{ReportFault}
use Rattle.cli_journal.specs.declared.report_fault.ReportFault.TheVariants.{NoFirst, NoLast, NoTime, NoOperator, NoFolder, Present, NotWritten}

abbrev pub file_name : ReportFile → List ℕ
file_name Verdicts = codes "verdicts.csv"
file_name Summary = codes "summary.csv"
file_name Page = codes "report.html"

-- 2 for wrong arguments, 4 for the folder that the report is for, 7 where it couldn't be written
abbrev pub report_status : ReportFault → ℕ
report_status NoFirst = 2
report_status NoLast = 2
report_status NoTime = 2
report_status (NoOperator id) = 2
report_status NoFolder = 4
report_status (Present file) = 4
report_status NotWritten = 7

abbrev pub report_message : ReportFault → List ℕ
report_message NoFirst = codes "ruffletuff: this is no moment"
report_message NoLast = codes "ruffletuff: this is no moment"
report_message NoTime = codes "ruffletuff: the moment of --to isn't later than that of --from"
report_message (NoOperator id) = codes "ruffletuff: the operator isn't in the configuration"
report_message NoFolder = codes "ruffletuff: the folder for the report isn't there"
report_message (Present file) = codes "ruffletuff: the folder has a report already"
report_message NotWritten = codes "ruffletuff: the report couldn't be written"

-- the first moment of a report and the one before which its last is: both are moments, and the second is later
abbrev pub span_of : (from to : Option ℕ) → Result (ℕ × ℕ) ReportFault
span_of None to = Err NoFirst
span_of (Some from) None = Err NoLast
span_of (Some from) (Some to) = if nat_lt from to then Ok (from, to) else Err NoTime
