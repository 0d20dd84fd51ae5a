-- Why a document is refused, and how a reader's result is related to a definition.
use Rattle.std.specs.Prelude.{◌≡◌, ℕ, List, ◌++◌, codes, Option, Some, None, IsSome, Result, Ok, Err, IfErr}
use Rattle.mds_text.specs.Field.{name_of}
use Rattle.mds_text.specs.declared.field.Field.{Field}
use Rattle.mds_text.specs.declared.fault.NumberFault.{NumberFault}
use Rattle.mds_text.specs.declared.fault.NumberFault.TheVariants as number
use Rattle.mds_text.specs.declared.fault.TextFault.{TextFault}
use Rattle.mds_text.specs.declared.fault.TextFault.TheVariants.{BadJson, BadField, BadNumber, OutOfRange, NoMemory}

-- The reasons for which a document of the server is refused, each named after the code of its
-- refusal.
pub data Fault : Type 0 where
  bad_json : Fault
  bad_field : (field : Field) → Fault
  bad_number : Fault
  out_of_range : Fault
  decimal : Fault
  too_many_rules : Fault
  too_many_points : Fault
  ring_short : Fault
  ring_open : Fault
  too_many_operators : Fault
  bad_zone : Fault
  alike : Fault

-- the reason that a fault stands for; out of memory is none
abbrev pub text_cause : TextFault → Option Fault
text_cause BadJson = Some bad_json
text_cause (BadField field) = Some (bad_field field)
text_cause BadNumber = Some bad_number
text_cause OutOfRange = Some out_of_range
text_cause NoMemory = None

-- the same for the fault of a number's text
abbrev pub number_cause : NumberFault → Option Fault
number_cause number.BadNumber = Some bad_number
number_cause number.OutOfRange = Some out_of_range

-- the message of a text's fault: that of a bad field has the member's name
abbrev pub text_wording : TextFault → List ℕ
text_wording BadJson = codes "bad JSON"
text_wording (BadField field) = codes "bad field " ++ name_of field
text_wording BadNumber = codes "bad number"
text_wording OutOfRange = codes "out of range"
text_wording NoMemory = codes "no memory"

-- the same for the fault of a number's text
abbrev pub number_wording : NumberFault → List ℕ
number_wording number.BadNumber = codes "bad number"
number_wording number.OutOfRange = codes "out of range"

-- the definition refuses for this reason; out of memory says nothing about it
abbrev pub Refuses : {Y : Type 0} → Option Fault → Result Y Fault → Type 0
Refuses None defined = Unit {0}
Refuses (Some fault) defined = defined ≡ Err fault

-- a reader's result, seen through `view`, is the defined one, unless it ran out of memory
abbrev pub Gives : {X Y E : Type 0} → (E → Option Fault) → (X → Y) → Result X E → Result Y Fault → Type 0
Gives cause view (Ok x) defined = defined ≡ Ok (view x)
Gives cause view (Err e) defined = Refuses (cause e) defined

-- an error has a reason: it is never out of memory
abbrev pub IsCaused : {X : Type 0} → Result X TextFault → Type 0
IsCaused result = IfErr result (λ e. IsSome (text_cause e))

-- one reading after another; the first fault is the result
infixl 10 ◌>>=◌
abbrev pub ◌>>=◌ : {A B : Type 0} → Result A Fault → (A → Result B Fault) → Result B Fault
(Ok x) >>= f = f x
(Err fault) >>= f = Err fault
