-- Why a text is not a time zone.
use Rattle.std.specs.Prelude.{Option, Some, None}
use Rattle.mds_text.specs.Fault.{Fault, bad_zone}
use Rattle.mds_match.specs.declared.zone.ZoneFault.{ZoneFault}
use Rattle.mds_match.specs.declared.zone.ZoneFault.TheVariants.{BadZone, NoMemory}

-- the reason that a fault stands for; out of memory is none
abbrev pub zone_cause : ZoneFault → Option Fault
zone_cause BadZone = Some bad_zone
zone_cause NoMemory = None
