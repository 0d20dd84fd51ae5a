-- The clock of a zone as days and seconds. Days are counted from 29 December 1969, the Monday before the Unix epoch, so
-- that the local day of each moment has a number; seconds from its beginning. All is by the local weekday and second
-- that decide when rules are open.
use Rattle.std.specs.Prelude.{ℕ, ◌+◌, ◌-◌, ◌*◌, ◌/◌, ◌%◌, ◌==◌, Bool, true, false, nat_le, if◌then◌else◌, Option, Some, None, option_and_then}
use Rattle.mds_text.specs.Fields.{last_moment}
use Rattle.mds_match.specs.Zone.{ZoneKind, local_of}
use Rattle.mds_match.specs.declared.local.Local.{Local}

-- The local day at a moment. It is at most three days away from that of UTC, and so the one among these seven with the
-- local weekday, counted from Sunday; the Unix epoch was a Thursday.
abbrev pub local_day : Local → ℕ → ℕ
local_day local t = t / 86400000 + (local.weekday + 10 - (t / 86400000 + 4) % 7) % 7

-- what the clock shows, in seconds
abbrev pub clock : Local → ℕ → ℕ
clock local t = local_day local t * 86400 + local.second

unfoldable pub clock_at : ZoneKind → ℕ → ℕ
clock_at zone t = clock (local_of zone t) t

-- a whole second since the Unix epoch, as a moment
abbrev pub moment_if : ℕ → Option ℕ
moment_if second = if nat_le (second * 1000) last_moment then Some (second * 1000) else None

-- the moment at which the clock shows this, if it is then as far ahead of UTC as in this second since the Unix epoch
abbrev pub moment_beside : ZoneKind → ℕ → ℕ → Option ℕ
moment_beside zone shown second =
    option_and_then (λ t. moment_if (second + shown - clock_at zone t)) (moment_if second)

-- whether the clock shows this at a moment, if there is one
abbrev pub is_shown : ZoneKind → ℕ → Option ℕ → Bool
is_shown zone shown None = false
is_shown zone shown (Some t) = clock_at zone t == shown

-- The moment at which the clock shows this: of two, as clocks are set back, the earlier one. Where clocks are set forward
-- over it, the moment at which it would be shown if they weren't.
abbrev pub moment_showing : ZoneKind → ℕ → Option ℕ
moment_showing zone shown =
    let early = moment_beside zone shown (shown - 345600) in
    let late = moment_beside zone shown (shown - 172800) in
    if is_shown zone shown early then early else if is_shown zone shown late then late else early
