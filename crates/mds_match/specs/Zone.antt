-- Time zones, and the local time in them. A zone is a fixed offset from UTC or a rule as in POSIX's TZ variable. Which
-- texts are rules, and what a rule says, is defined by `jiff`: by its `read_whole`, and by its words for the moments of
-- a rule.
use Rattle.std.specs.Prelude.{ℕ, ◌+◌, ◌*◌, ℤ, pos, neg_ℤ, ◌+ℤ◌, ◌-ℤ◌, ◌*ℤ◌, int_lt, List, ◌==◌, ◌&&◌, ◌||◌, if◌then◌else◌, length, slice_index, unsigned_abs, Option, Some, None, option_and_then, bytes_eq, codes, Result, Ok, Err}
use Rattle.std.specs.Int.{int_div_euclid, int_rem_euclid}
use Rattle.jiff_core.specs.Date.{epoch_day}
use Rattle.jiff_core.specs.Time.{time_seconds}
use Rattle.jiff_core.specs.Timestamp.{nanos_of_seconds}
use Rattle.jiff_core.specs.declared.civil.datetime.DateTime.{DateTime}
use Rattle.jiff_tz.specs.PosixReader.{read_whole}
use Rattle.jiff_tz.specs.PosixRule.{match_some, clamp_to, first_nanosecond, last_nanosecond, nanos_per_day, rule_day, in_window, saturating_add, int_same, sunday_number}
use Rattle.jiff_tz.specs.PosixText.{TzText, DstText}
use Rattle.jiff_tz.specs.Year.{year_of_nanos}
use Rattle.jiff_tz.specs.declared.posix.Day.{Day}
use Rattle.mds_text.specs.Fault.{Fault, bad_zone}
use Rattle.mds_text.specs.Numbers.{two_digits}
use Rattle.mds_match.specs.declared.local.Local.{Local}

-- a fixed offset in seconds, positive east of Greenwich, or the rule of a text
pub data ZoneKind : Type 0 where
  fixed : (offset : ℤ) → ZoneKind
  ruled : (rule : TzText) → ZoneKind

-- an offset with the sign before it: `+` is east of Greenwich, `-` west of it
abbrev pub with_sign : ℕ → ℕ → Option ℤ
with_sign sign size = if sign == 43 then Some (pos size) else if sign == 45 then Some (neg_ℤ (pos size)) else None

-- the seconds of `+hh:mm` or `-hh:mm`, with hours to 14 and minutes to 59
abbrev pub offset_of : List ℕ → Option ℤ
offset_of text =
    if (length text == 6) && (slice_index text 3 == 58)
    then option_and_then (λ hours. option_and_then (λ minutes. with_sign (slice_index text 0) (hours * 3600 + minutes * 60)) (two_digits 59 (slice_index text 4) (slice_index text 5))) (two_digits 14 (slice_index text 1) (slice_index text 2))
    else None

-- a rule, where the text is one
abbrev pub rule_or_bad : Option TzText → Result ZoneKind Fault
rule_or_bad None = Err bad_zone
rule_or_bad (Some rule) = Ok (ruled rule)

-- the offset, where there is one, else the rule of the text
abbrev pub fixed_or_rule : List ℕ → Option ℤ → Result ZoneKind Fault
fixed_or_rule text None = rule_or_bad (read_whole text)
fixed_or_rule text (Some offset) = Ok (fixed offset)

-- the zone of a text
abbrev pub zone_of : List ℕ → Result ZoneKind Fault
zone_of text = fixed_or_rule text (if bytes_eq text (codes "Z") then Some (pos 0) else offset_of text)

-- The instant in the year of a rule's moment, which is a day and a number of seconds after its midnight: in nanoseconds
-- of UTC, where the rule's clock is `seconds` ahead of UTC. It stays within the year; a day that the year lacks is its
-- end.
abbrev pub moment_in : ℤ → Day × ℤ → ℤ → ℤ
moment_in year moment seconds = match_some (rule_day year moment.0) (last_nanosecond year) (λ day.
    clamp_to (first_nanosecond year) (last_nanosecond year)
    (day *ℤ nanos_per_day +ℤ nanos_of_seconds (moment.1 -ℤ seconds)))

-- When daylight saving time begins and ends in the year, for a standard time `seconds` ahead of UTC. Where it begins
-- with the year, and its end, read at standard time, is outside the year, it is in force all year.
unfoldable pub summer : DstText → ℤ → ℤ → ℤ × ℤ
summer dst year seconds =
    let start : ℤ = moment_in year dst.start seconds in
    let end : ℤ = moment_in year dst.finish dst.seconds in
    let shifted : ℤ = saturating_add end (nanos_of_seconds seconds) in
    if int_same start (first_nanosecond year)
    && (int_lt shifted (first_nanosecond year) || int_lt (last_nanosecond year) shifted)
    then (start, last_nanosecond year)
    else (start, end)

-- how far the clock is ahead of UTC at an instant, in seconds, by a rule: daylight saving time between its two moments
-- of the instant's year, else standard time
unfoldable pub rule_offset : TzText → ℤ → ℤ
rule_offset rule instant = match_some rule.dst rule.std_seconds (λ dst.
    if in_window (summer dst (year_of_nanos instant) rule.std_seconds) instant then dst.seconds else rule.std_seconds)

-- the nanoseconds of a moment
abbrev pub instant_of : ℕ → ℤ
instant_of moment = pos moment *ℤ pos 1000000

-- how far the clock is ahead of UTC at a moment, in seconds
unfoldable pub offset_in : ZoneKind → ℕ → ℤ
offset_in (fixed offset) moment = offset
offset_in (ruled rule) moment = rule_offset rule (instant_of moment)

-- The local time at an offset: the moment's milliseconds plus the offset. The weekday is counted from the Sunday before
-- the Unix epoch, which was a Thursday; the second of the day is rounded down.
abbrev pub local_at : ℤ → ℕ → Local
local_at offset moment =
    let instant = pos moment +ℤ (offset *ℤ pos 1000) in
    record {
      weekday = unsigned_abs (int_rem_euclid (int_div_euclid (instant +ℤ pos 345600000) (pos 86400000)) (pos 7));
      second = unsigned_abs (int_rem_euclid (int_div_euclid instant (pos 1000)) (pos 86400));
    }

-- the local time in a zone
abbrev pub local_of : ZoneKind → ℕ → Local
local_of zone moment = local_at (offset_in zone moment) moment

-- the weekday and the second of the day that a civil datetime of `jiff` shows
abbrev pub shown : DateTime → Local
shown datetime =
    record { weekday = sunday_number (epoch_day datetime.date); second = time_seconds datetime.time }
