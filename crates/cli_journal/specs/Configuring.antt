-- Whether a server starts, by what is found in its configuration's text.
use Rattle.std.specs.Prelude.{List, Bool, true, false, if◌then◌else◌, Result, Ok, Err}
use Rattle.std.specs.List.{list_any}
use Rattle.cli_config.specs.declared.finding.ConfigFinding.{ConfigFinding}
use Rattle.cli_config.specs.declared.finding.FindingKind.{FindingKind}
use Rattle.cli_config.specs.declared.finding.FindingKind.TheVariants as found
use Rattle.cli_journal.specs.declared.exit_cause.ExitCause.{ExitCause}
use Rattle.cli_journal.specs.declared.exit_cause.ExitCause.TheVariants.{NoOversight, NoPage}

-- a value that is none of the texts of `oversight`, and a part of `page` that is wrong; every other error makes the text no
-- configuration, which is found out where it is read as one
abbrev pub is_no_oversight : FindingKind → Bool
is_no_oversight found.NoOversight = true
is_no_oversight other = false

abbrev pub is_no_page : FindingKind → Bool
is_no_page (found.NoPage fault) = true
is_no_page other = false

-- no server starts where there is such a finding
abbrev pub refused_by : List ConfigFinding → Result (Unit {0}) ExitCause
refused_by findings =
    if list_any (λ f. is_no_oversight f.what) findings then Err NoOversight
    else if list_any (λ f. is_no_page f.what) findings then Err NoPage else Ok tt
