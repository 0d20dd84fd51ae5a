-- By how much a rule was violated: its worst measure against its bound.
use Rattle.std.specs.Prelude.{ℕ, ◌+◌, ◌-◌, ◌==◌, List, [], ◌++◌, Bool, codes, length, if◌then◌else◌, Option, Some, None}
use Rattle.std.specs.Fmt.{decimal}
use Rattle.mds_policy.specs.declared.rule.Bounds.{Bounds}
use Rattle.mds_policy.specs.declared.rule.Kind.{Kind}
use Rattle.mds_policy.specs.declared.rule.Kind.TheVariants.{Count, Time, Other}
use Rattle.cli_report.specs.Bounds.{least_text, most_text}
use Rattle.cli_report.specs.Days.{greatest_measure, least_measure}
use Rattle.cli_report.specs.declared.days.DaySample.{DaySample}

-- a measure that is equal to a bound is one off where the bound isn't within itself
abbrev pub beyond : Bool → ℕ → ℕ
beyond inclusive n = if inclusive then n else n + 1

-- how many vehicles more than a maximum allows, and how many fewer than a minimum asks for
abbrev pub too_many : Bool → (most measure : ℕ) → ℕ
too_many inclusive most measure = beyond inclusive measure - most

abbrev pub too_few : Bool → (least measure : ℕ) → ℕ
too_few inclusive least measure = beyond inclusive least - measure

abbrev pub vehicles_text : ℕ → List ℕ
vehicles_text n = if n == 1 then codes "1 vehicle" else decimal n ++ codes " vehicles"

-- the words for a measure and the bound that it is beyond, as `33 of at least 40`, and for how far it is off
abbrev pub worst_measure : ℕ → List ℕ
worst_measure measure = codes " At worst " ++ decimal measure ++ codes " of "

abbrev pub at_worst : ℕ → List ℕ → List ℕ
at_worst measure bound = (worst_measure measure ++ bound) ++ codes ": "

abbrev pub excess_words : ℕ → List ℕ
excess_words excess = decimal excess ++ codes " too many."

abbrev pub lack_words : ℕ → List ℕ
lack_words lack = decimal lack ++ codes " too few."

abbrev pub excess_text : ℕ → List ℕ → (excess : ℕ) → List ℕ
excess_text measure bound excess = if excess == 0 then [] else at_worst measure bound ++ excess_words excess

abbrev pub lack_text : ℕ → List ℕ → (lack : ℕ) → List ℕ
lack_text measure bound lack = if lack == 0 then [] else at_worst measure bound ++ lack_words lack

-- of the greatest measure, where it is too great, and of the least one, where it is too small
abbrev pub over_most : Bool → Option ℕ → ℕ → List ℕ
over_most inclusive None measure = []
over_most inclusive (Some most) measure = excess_text measure (most_text inclusive most) (too_many inclusive most measure)

abbrev pub under_least : Bool → Option ℕ → ℕ → List ℕ
under_least inclusive None measure = []
under_least inclusive (Some least) measure = lack_text measure (least_text inclusive least) (too_few inclusive least measure)

abbrev pub over_text : Bounds → ℕ → List ℕ
over_text b measure = over_most b.inclusive_maximum b.maximum measure

abbrev pub under_text : Bounds → Option ℕ → List ℕ
under_text b None = []
under_text b (Some measure) = under_least b.inclusive_minimum b.minimum measure

-- a time rule's measure is how many vehicles violate it
abbrev pub at_once_text : ℕ → List ℕ
at_once_text measure = if measure == 0 then [] else codes " At worst " ++ vehicles_text measure ++ codes " at once."

abbrev pub words_of : Kind → Bounds → List DaySample → List ℕ
words_of Count b violated = over_text b (greatest_measure violated) ++ under_text b (least_measure violated)
words_of (Time unit) b violated = at_once_text (greatest_measure violated)
words_of Other b violated = []

-- of all violated samples of a rule, where there are any
abbrev pub worst_text : Kind → Bounds → List DaySample → List ℕ
worst_text kind b violated = if length violated == 0 then [] else words_of kind b violated
