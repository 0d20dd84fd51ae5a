-- Time zones by rules of POSIX's TZ variable.
use Rattle.std.specs.Prelude.{ℕ, pos, neg_ℤ, List, codes, Some, Result, Ok}
use Rattle.jiff_tz.specs.PosixText.{TzText, DstText}
use Rattle.jiff_tz.specs.declared.posix.Day.TheVariants.{WeekdayOfMonth}
use Rattle.mds_text.specs.Fault.{Fault, ◌>>=◌}
use Rattle.mds_match.specs.Zone.{zone_of, local_of}
use Rattle.mds_match.specs.declared.local.Local.{Local}

-- the local time at a moment in the zone that a text names
abbrev pub local_in : List ℕ → ℕ → Result Local Fault
local_in text moment = zone_of text >>= λ zone. Ok (local_of zone moment)

-- Pacific time: eight hours west of Greenwich, and seven from the second Sunday of March at 02:00 to the first of
-- November at 02:00
abbrev pub pacific_summer : DstText
pacific_summer =
    record {
      name = codes "PDT";
      seconds = neg_ℤ (pos 25200);
      start = (WeekdayOfMonth 3 2 0, pos 7200);
      finish = (WeekdayOfMonth 11 1 0, pos 7200);
    }

abbrev pub pacific : TzText
pacific = record { std_name = codes "PST"; std_seconds = neg_ℤ (pos 28800); dst = Some pacific_summer }

-- Sydney time: ten hours east of Greenwich, and eleven from the first Sunday of October at 02:00 to the first of
-- April at 03:00
abbrev pub sydney_summer : DstText
sydney_summer =
    record {
      name = codes "AEDT";
      seconds = pos 39600;
      start = (WeekdayOfMonth 10 1 0, pos 7200);
      finish = (WeekdayOfMonth 4 1 0, pos 10800);
    }

abbrev pub sydney : TzText
sydney = record { std_name = codes "AEST"; std_seconds = pos 36000; dst = Some sydney_summer }
