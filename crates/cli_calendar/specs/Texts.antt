-- How moments are written (RFC 3339, section 5.6).
use Rattle.std.specs.Prelude.{◌≡◌, ℕ, ◌+◌, ◌-◌, ◌*◌, ◌/◌, ◌%◌, ◌==◌, pos, ◌-ℤ◌, unsigned_abs, List, [], ◌∷◌, ◌++◌, nat_le, if◌then◌else◌}
use Rattle.jiff_core.specs.Date.{epoch_day}
use Rattle.jiff_core.specs.declared.civil.date.Date.{Date}
use Rattle.mds_match.specs.Zone.{ZoneKind}
use Rattle.cli_calendar.specs.Clocks.{clock_at}

-- the last two decimal digits, and the last four
abbrev pub two : ℕ → List ℕ
two n = (48 + n / 10 % 10) ∷ (48 + n % 10) ∷ []

abbrev pub four : ℕ → List ℕ
four n = two (n / 100) ++ two n

-- a date, as `2026-11-23`
abbrev pub date_text : Date → List ℕ
date_text d = four (unsigned_abs d.year) ++ 45 ∷ [] ++ two d.month ++ 45 ∷ [] ++ two d.day

-- the date of a day, counted from 29 December 1969
unfoldable pub IsDay : ℕ → List ℕ → Type 0
IsDay day text = (d : Date) × (epoch_day d ≡ pos day -ℤ pos 3) × (text ≡ date_text d)

-- a second of the day, as `08:00:00`
abbrev pub time_text : ℕ → List ℕ
time_text second = two (second / 3600) ++ 58 ∷ [] ++ two (second / 60 % 60) ++ 58 ∷ [] ++ two (second % 60)

abbrev pub behind_date : ℕ → List ℕ
behind_date second = 84 ∷ time_text second

-- what a clock shows, in seconds since 29 December 1969, as `2026-11-23T08:00:00`
unfoldable pub IsClock : ℕ → List ℕ → Type 0
IsClock clock text = (day : List ℕ) × IsDay (clock / 86400) day × (text ≡ day ++ behind_date (clock % 86400))

-- a part of a second, where there is one, as `.250`
abbrev pub part_text : ℕ → List ℕ
part_text millis = if millis == 0 then [] else 46 ∷ (48 + millis / 100 % 10) ∷ two millis

-- a moment in UTC, as `2026-11-23T13:00:00Z`
abbrev pub utc_end : ℕ → List ℕ
utc_end millis = part_text (millis % 1000) ++ 90 ∷ []

unfoldable pub IsUtc : ℕ → List ℕ → Type 0
IsUtc t text = (clock : List ℕ) × IsClock (t / 1000 + 259200) clock × (text ≡ clock ++ utc_end t)

-- a span of seconds in hours and minutes, as `05:00`
abbrev pub span_text : ℕ → List ℕ
span_text span = two (span / 3600) ++ 58 ∷ [] ++ two (span / 60 % 60)

-- how far a clock is ahead of UTC's, or behind it, as `-05:00`
abbrev pub ahead_text : ℕ → ℕ → List ℕ
ahead_text shown utc = if nat_le utc shown then 43 ∷ span_text (shown - utc) else 45 ∷ span_text (utc - shown)

-- a moment in a zone, as `2026-11-23T08:00:00-05:00`
abbrev pub local_end : (clock millis : ℕ) → List ℕ
local_end clock millis = part_text (millis % 1000) ++ ahead_text clock (millis / 1000 + 259200)

unfoldable pub IsLocal : ZoneKind → ℕ → List ℕ → Type 0
IsLocal zone t text =
    (clock : List ℕ) × IsClock (clock_at zone t) clock × (text ≡ clock ++ local_end (clock_at zone t) t)
