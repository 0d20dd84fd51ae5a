-- `jiff`'s offset of a rule is the defined one.
use Rattle.std.proofs.Common.{◌≡◌, ℕ, ℤ, Bool, true, false, if◌then◌else◌, Option, Some, None, option_map, refl}
use Rattle.jiff_core.specs.declared.offset.Offset.{Offset}
use Rattle.jiff_tz.specs.PosixText.{dst_view, tz_view}
use Rattle.jiff_tz.specs.PosixRule as Posix
use Rattle.jiff_tz.specs.declared.posix.Dst.{Dst}
use Rattle.jiff_tz.specs.declared.posix.TimeZone.{TimeZone}
use Rattle.jiff_tz.specs.declared.timezone.TimeZone.TheVariants as zone
use Rattle.jiff_tz.specs.Year.{year_of_nanos}
use Rattle.jiff_tz.specs.Zone.{offset_at}
use Rattle.mds_match.specs.Zone.{ruled, summer, rule_offset, instant_of, offset_in}

-- daylight saving time of a year is `jiff`'s
summer-is : (dst : Dst) (year : ℤ) (std : Offset) → summer (dst_view dst) year std.seconds ≡ Posix.utc_window dst year std
unfolding summer Posix.utc_window Posix.rule_nanos
summer-is dst year std = refl

-- either of the two offsets
chosen : (dst : Dst) (std : Offset) (b : Bool) → (if b then dst.offset.seconds else std.seconds) ≡ (Posix.match_some (if b then Some dst else None) std (λ d. d.offset)).seconds
chosen dst std true = refl
chosen dst std false = refl

by_dst : (std : Offset) (dst : Option Dst) (n : ℤ) → Posix.match_some (option_map dst_view dst) std.seconds (λ d. if Posix.in_window (summer d (year_of_nanos n) std.seconds) n then d.seconds else std.seconds) ≡ (Posix.match_some (Posix.dst_at_by std dst n) std (λ d. d.offset)).seconds
by_dst std None n = refl
by_dst std (Some dst) n = rw (summer-is dst (year_of_nanos n) std) (chosen dst std (Posix.in_window (Posix.utc_window dst (year_of_nanos n) std) n))

pub rule_offset-is : (rule : TimeZone) (n : ℤ) → rule_offset (tz_view rule) n ≡ offset_at (zone.Posix rule) n
unfolding rule_offset offset_at
rule_offset-is rule n = by_dst rule.std_offset rule.dst n

-- the offset at a moment, by a rule
pub offset_in-is : (rule : TimeZone) (moment : ℕ) → (Posix.offset_at rule (instant_of moment)).seconds ≡ offset_in (ruled (tz_view rule)) moment
unfolding offset_at offset_in
offset_in-is rule moment = rw (rule_offset-is rule (instant_of moment)) refl
