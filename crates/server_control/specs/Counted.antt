-- The kinds of what is counted, and their rows.
use Rattle.std.specs.Prelude.{ℕ, ◌+◌, ◌*◌, nat_lt, if◌then◌else◌}
use Rattle.server_control.specs.declared.counters.CallKind.{CallKind}
use Rattle.server_control.specs.declared.counters.CallKind.TheVariants.{Read, Change, Publish}
use Rattle.server_control.specs.declared.counters.StatusClass.{StatusClass}
use Rattle.server_control.specs.declared.counters.StatusClass.TheVariants.{Done, Refused, Failed}
use Rattle.server_control.specs.declared.counters.Figure.{Figure}
use Rattle.server_control.specs.declared.counters.Figure.TheVariants.{JournalBytes, Syncs, Pending, Revision}

-- the class of a status (RFC 9110, section 15): 4xx is the client's fault, 5xx the server's
abbrev pub outcome_of : ℕ → StatusClass
outcome_of status = if nat_lt status 400 then Done else (if nat_lt status 500 then Refused else Failed)

abbrev pub kind_place : CallKind → ℕ
kind_place Read = 0
kind_place Change = 1
kind_place Publish = 2

abbrev pub outcome_place : StatusClass → ℕ
outcome_place Done = 0
outcome_place Refused = 1
outcome_place Failed = 2

-- three rows for each kind of request
abbrev pub request_place : CallKind → StatusClass → ℕ
request_place kind outcome = 3 * kind_place kind + outcome_place outcome

-- after the nine rows of requests
abbrev pub place_of : Figure → ℕ
place_of JournalBytes = 9
place_of Syncs = 10
place_of Pending = 11
place_of Revision = 12
