-- The answer to a call: a success with its reply and the next state, or the code of a refusal, which changes nothing.
use Rattle.std.specs.Prelude.{◌≡◌, ◌⊎◌, Bool, if◌then◌else◌, Option, Some, None, Result, Ok, Err}
use Rattle.mds_text.specs.Tree.{Json}
use Rattle.mds_text.specs.Printed.{printed}
use Rattle.mds_request.specs.Reply.{Reply, success, refused}
use Rattle.mds_request.specs.declared.code.Code.{Code}
use Rattle.mds_request.specs.declared.code.Code.TheVariants.{NoMemory}

-- one computation after another; the first refusal stays
infixl 10 ◌>>=◌
abbrev pub ◌>>=◌ : {A B : Type 0} → Result A Code → (A → Result B Code) → Result B Code
(Ok a) >>= f = f a
(Err code) >>= f = Err code

-- a value, or the code of the fault in its place
abbrev pub coded : {A F : Type 0} → (F → Code) → Result A F → Result A Code
coded code_of (Ok a) = Ok a
coded code_of (Err fault) = Err (code_of fault)

-- a value, or this code where there is none
abbrev pub or_code : {A : Type 0} → Code → Option A → Result A Code
or_code code None = Err code
or_code code (Some a) = Ok a

-- a value that passes a test, or this code
abbrev pub if_it : {A : Type 0} → Code → (A → Bool) → A → Result A Code
if_it code test a = if test a then Ok a else Err code

-- a success with a JSON value as its body
abbrev pub told : Json → Reply
told json = success (printed json)

-- a success that changes nothing
abbrev pub leaving : {S : Type 0} → S → Reply → Result (Reply × S) Code
leaving old reply = Ok (reply, old)

-- The reply and the next state: a refused call changes nothing.
abbrev pub settled : {S : Type 0} → S → Result (Reply × S) Code → Reply × S
settled old (Ok outcome) = outcome
settled old (Err code) = (refused code, old)

-- The possible outcomes: the defined reply and change; or, where memory may run out, the refusal for that and no
-- change.
abbrev pub Gives : {S : Type 0} → Type 0 → S → Result (Reply × S) Code → Reply → S → Type 0
Gives MayRunOut old defined reply new =
    ((reply ≡ (settled old defined).0) × (new ≡ (settled old defined).1))
    ⊎ (MayRunOut × (reply ≡ refused NoMemory) × (new ≡ old))
