-- The messages about a named zone.
use Rattle.std.specs.Prelude.{ℕ, List, ◌++◌, codes}
use Rattle.cli_timezone.specs.declared.fault.ZoneFileFault.{ZoneFileFault}
use Rattle.cli_timezone.specs.declared.fault.ZoneFileFault.TheVariants.{Unreadable, NoTzif, FirstVersion, NoFooter, NoRule, NoText, NoMemory}
use Rattle.cli_timezone.specs.Names.{path_of}

-- which rule a name means, and by which file
abbrev pub zone_wording : List ℕ → List ℕ → List ℕ
zone_wording name rule = codes "zone " ++ name ++ codes " is " ++ rule ++ codes " by " ++ path_of name

abbrev pub fault_wording : ZoneFileFault → List ℕ
fault_wording Unreadable = codes "can't be read"
fault_wording NoTzif = codes "is no TZif file (RFC 9636)"
fault_wording FirstVersion = codes "is a TZif file of version 1, which has no footer"
fault_wording NoFooter = codes "is a TZif file without a footer"
fault_wording NoRule = codes "has an empty footer, so no rule is in force"
fault_wording NoText = codes "has a footer that is no rule"
fault_wording NoMemory = codes "needs more memory than there is"
