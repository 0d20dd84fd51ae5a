-- The moments of a report: how they are spelled, and which they are.
use Rattle.std.specs.Prelude.{ℕ, ◌+◌, ◌-◌, ◌*◌, ◌/◌, ◌==◌, ℤ, pos, negsuc, int_div, List, ◌++◌, map, codes, length, nat_le, if◌then◌else◌, Option, Some, None, option_and_then, Result, Ok, Err}
use Rattle.std.specs.List.{range_with_len}
use Rattle.std.specs.Option.{option_or}
use Rattle.jiff.specs.Words.{parse_timestamp}
use Rattle.jiff_core.specs.declared.error.Error.{Error}
use Rattle.mds_text.specs.Fields.{last_moment}
use Rattle.mds_match.specs.Zone.{ZoneKind}
use Rattle.cli_args.specs.Options.{moment_in as digits_in}
use Rattle.cli_calendar.specs.Clocks.{moment_showing}

-- milliseconds since the Unix epoch, rounded to 0
abbrev pub millis_of : Result ℤ Error → Option ℤ
millis_of (Ok nanos) = Some (int_div nanos (pos 1_000_000))
millis_of (Err fault) = None

abbrev pub millis_in : List ℕ → Option ℤ
millis_in text = millis_of (parse_timestamp text)

-- until the end of 2099
abbrev pub in_range : ℤ → Option ℕ
in_range (pos n) = if nat_le n last_moment then Some n else None
in_range (negsuc n) = None

-- a moment of RFC 3339, with its offset from UTC
unfoldable pub instant_in : List ℕ → Option ℕ
instant_in text = option_and_then in_range (millis_in text)

-- what stands behind a local date, or a local date and time, so that it is one of RFC 3339 in UTC
abbrev pub utc_end : List ℕ → List ℕ
utc_end text = if length text == 10 then codes "T00:00Z" else codes "Z"

-- a local date or date and time, as a moment of UTC
abbrev pub civil_in : List ℕ → Option ℕ
civil_in text = instant_in (text ++ utc_end text)

-- the moment of a local time: days are counted from 29 December 1969
abbrev pub local_in : ZoneKind → List ℕ → Option ℕ
local_in zone text = option_and_then (λ t. moment_showing zone (t / 1000 + 259200)) (civil_in text)

-- A moment: digits are milliseconds since the Unix epoch; else it is of RFC 3339; else a local date or date and time.
abbrev pub moment_in : ZoneKind → List ℕ → Option ℕ
moment_in zone text = option_or (digits_in text) (option_or (instant_in text) (local_in zone text))

-- how many moments there are from one to before another, so many milliseconds apart
abbrev pub count_between : ℕ → ℕ → ℕ → ℕ
count_between from to every = (to - from + (every - 1)) / every

abbrev pub moments_between : ℕ → ℕ → ℕ → List ℕ
moments_between from to every = map (λ k. from + k * every) (range_with_len 0 (count_between from to every))
