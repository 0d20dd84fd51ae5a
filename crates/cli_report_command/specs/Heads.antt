-- What a report says of its moments, and how much it says that there is.
use Rattle.std.specs.Prelude.{ℕ, ◌-◌, ◌==◌, List, if◌then◌else◌, nat_lt, length, slice_get, unwrap_or, Option, Some, None, option_map, Result}
use Rattle.cli_journal.specs.Reports.{span_of}
use Rattle.cli_journal.specs.declared.report_fault.ReportFault.{ReportFault}

-- A report that is asked for up to a moment that is still to come ends when it is made, where a clock says when that is.
-- What is left over then is told by the moment up to which it was asked for.
abbrev pub end_by : (made : Option ℕ) → (to : ℕ) → ℕ
end_by None to = to
end_by (Some made) to = if nat_lt made to then made else to

abbrev pub left_over : (made : Option ℕ) → (to : ℕ) → Option ℕ
left_over None to = None
left_over (Some made) to = if nat_lt made to then Some to else None

-- the first moment of a report, and the one before which its last is, by what it is asked for
abbrev pub time_of : (made from to : Option ℕ) → Result (ℕ × ℕ) ReportFault
time_of made from to = span_of from (option_map (end_by made) to)

-- the last of some moments, or else this one
abbrev pub last_of : List ℕ → ℕ → ℕ
last_of moments t = unwrap_or (slice_get moments (length moments - 1)) t

-- one of something, or several
abbrev pub noun : ℕ → List ℕ → List ℕ → List ℕ
noun count one many = if count == 1 then one else many
