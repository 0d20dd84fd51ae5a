use Rattle.std.proofs.Common.{◌≡◌, ◌+◌, ◌*◌, ◌%◌, ◌<◌, ℕ, ℤ, pos, ◌+ℤ◌, ◌*ℤ◌, unsigned_abs, arith, refl}
use Rattle.std.specs.Int.{int_div_euclid, int_rem_euclid}
use Rattle.jiff_core.specs.Calendar.{weekday_number}
use Rattle.jiff_core.specs.Date.{epoch_day}
use Rattle.jiff_core.specs.DateTime.{civil_nanos}
use Rattle.jiff_core.specs.Time.{time_seconds}
use Rattle.jiff_core.specs.Timestamp.{nanos_of_seconds}
use Rattle.jiff_core.specs.declared.civil.datetime.DateTime.{DateTime}
use Rattle.jiff_core.proofs.SignedLemmas.{signed_arith}
use Rattle.jiff_tz.specs.Zone.{offset_at}
use Rattle.jiff_tz.specs.declared.timezone.TimeZone.TheVariants.{Posix}
use Rattle.mds_match.specs.Zone.{offset_in, instant_of, local_at, shown}
use Rattle.mds_match.proofs.Offsets.{rule_offset-is}
use Rattle.mds_match.proofs.laws.rules_are_as_jiff_converts.Goals as goal

-- the days, seconds and nanoseconds of a datetime add up to the moment at its offset
abbrev Comes : ℤ → ℕ → ℤ → ℕ → ℕ → Type 0
Comes offset moment days seconds nanos = (days *ℤ pos 86400000000000) +ℤ pos (seconds * 1000000000 + nanos) ≡ (pos moment *ℤ pos 1000000) +ℤ (offset *ℤ pos 1000000000)

whole_seconds : (offset : ℤ) (moment : ℕ) (days : ℤ) (seconds nanos : ℕ) → nanos < 1000000000 → Comes offset moment days seconds nanos → int_div_euclid (pos moment +ℤ (offset *ℤ pos 1000)) (pos 1000) ≡ (days *ℤ pos 86400) +ℤ pos seconds
whole_seconds offset moment days seconds nanos few comes = omega (arith, signed_arith)

second_is : (days : ℤ) (seconds : ℕ) → seconds < 86400 → unsigned_abs (int_rem_euclid ((days *ℤ pos 86400) +ℤ pos seconds) (pos 86400)) ≡ seconds
second_is days seconds few = omega (arith, signed_arith)

whole_days : (offset : ℤ) (moment : ℕ) (days : ℤ) (seconds nanos : ℕ) → seconds < 86400 → nanos < 1000000000 → Comes offset moment days seconds nanos → int_div_euclid ((pos moment +ℤ (offset *ℤ pos 1000)) +ℤ pos 345600000) (pos 86400000) ≡ days +ℤ pos 4
whole_days offset moment days seconds nanos few fine comes = omega (arith, signed_arith)

weekday_is : (days : ℤ) → unsigned_abs (int_rem_euclid (days +ℤ pos 4) (pos 7)) ≡ (unsigned_abs (int_rem_euclid (days +ℤ pos 3) (pos 7)) + 1) % 7
weekday_is days = omega (arith, signed_arith)

few_seconds : (datetime : DateTime) → time_seconds datetime.time < 86400
few_seconds datetime =
    let h = datetime.time.hour_in in
    let m = datetime.time.minute_in in
    let s = datetime.time.second_in in
    omega arith

at_offset : (offset : ℤ) (moment : ℕ) (datetime : DateTime) → civil_nanos datetime ≡ instant_of moment +ℤ nanos_of_seconds offset → local_at offset moment ≡ shown datetime
unfolding civil_nanos weekday_number
at_offset offset moment datetime comes =
    let days = epoch_day datetime.date in
    let seconds = time_seconds datetime.time in
    let few = few_seconds datetime in
    let fine = datetime.time.subsec_in in
    rw (
      whole_seconds offset moment days seconds datetime.time.subsec_nanosecond fine comes,
      whole_days offset moment days seconds datetime.time.subsec_nanosecond few fine comes,
      second_is days seconds few,
      weekday_is days,
    ) refl

pub returns-clause-offset : goal.returns-clause-offset
returns-clause-offset c rule instant = rule_offset-is rule instant

pub returns-clause-datetime : goal.returns-clause-datetime
unfolding offset_in
returns-clause-datetime c rule moment datetime comes =
    rw (rule_offset-is rule (instant_of moment)) (at_offset (offset_at (Posix rule) (instant_of moment)) moment datetime comes)
