-- The reason for a refusal, for each error.
use Rattle.std.specs.Prelude.{ℕ, List, Option, Some, None, codes}
use Rattle.mds_text.specs.Fault.{Fault, bad_zone, too_many_operators, alike, text_cause, text_wording}
use Rattle.mds_text.specs.declared.fault.TextFault.TheVariants.{NoMemory as Exhausted}
use Rattle.mds_request.specs.declared.fault.ConfigFault.{ConfigFault}
use Rattle.mds_request.specs.declared.fault.ConfigFault.TheVariants.{Text, TooManyOperators, BadZone, Alike, NoMemory}

-- the reason of an error, or none for out of memory
abbrev pub config_cause : ConfigFault → Option Fault
config_cause (Text fault) = text_cause fault
config_cause TooManyOperators = Some too_many_operators
config_cause BadZone = Some bad_zone
config_cause Alike = Some alike
config_cause NoMemory = None

-- the text of a fault of a configuration
abbrev pub config_wording : ConfigFault → List ℕ
config_wording (Text fault) = text_wording fault
config_wording TooManyOperators = codes "too many operators"
config_wording BadZone = codes "bad zone"
config_wording Alike = codes "alike"
config_wording NoMemory = codes "no memory"

-- out of memory has a variant of its own, and isn't a fault of the text
abbrev pub IsApart : ConfigFault → Type 0
IsApart (Text Exhausted) = ⊥
IsApart fault = Unit {0}
