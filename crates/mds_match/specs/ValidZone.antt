-- The zone that a `Zone` stands for.
use Rattle.std.specs.Prelude.{pos, negsuc, ◌≤ℤ◌}
use Rattle.jiff_tz.specs.PosixText.{tz_view}
use Rattle.mds_match.specs.Zone.{ZoneKind, fixed, ruled}
use Rattle.mds_match.specs.declared.zone.ZoneForm.{ZoneForm}
use Rattle.mds_match.specs.declared.zone.ZoneForm.TheVariants.{Fixed, Rule}

-- the zone of a stored form
abbrev pub zone_kind : ZoneForm → ZoneKind
zone_kind (Fixed offset) = fixed offset
zone_kind (Rule rule) = ruled (tz_view rule)

-- a stored offset is less than 15 hours either way
abbrev pub IsKept : ZoneForm → Type 0
IsKept (Fixed offset) = (negsuc 53939 ≤ℤ offset) × (offset ≤ℤ pos 53940)
IsKept (Rule rule) = Unit {0}
