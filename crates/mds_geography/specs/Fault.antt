-- Why a geography is refused.
use Rattle.std.specs.Prelude.{ℕ, List, codes, Option, Some}
use Rattle.mds_text.specs.Fault.{Fault, ring_short, ring_open, too_many_points, text_cause, text_wording}
use Rattle.mds_geometry.specs.declared.ring.RingFault.{RingFault}
use Rattle.mds_geometry.specs.declared.ring.RingFault.TheVariants.{Short, Open}
use Rattle.mds_geography.specs.declared.fault.GeoFault.{GeoFault}
use Rattle.mds_geography.specs.declared.fault.GeoFault.TheVariants.{Text, Ring, TooManyPoints}

-- the fault of a ring
abbrev pub ring_cause : RingFault → Fault
ring_cause Short = ring_short
ring_cause Open = ring_open

-- the reason that a fault stands for; out of memory is none
abbrev pub geo_cause : GeoFault → Option Fault
geo_cause (Text fault) = text_cause fault
geo_cause (Ring fault) = Some (ring_cause fault)
geo_cause TooManyPoints = Some too_many_points

-- the message of a geography's fault
abbrev pub geo_wording : GeoFault → List ℕ
geo_wording (Text fault) = text_wording fault
geo_wording (Ring Short) = codes "a ring is short"
geo_wording (Ring Open) = codes "a ring is open"
geo_wording TooManyPoints = codes "too many positions"
