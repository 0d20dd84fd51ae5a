-- The result of a part of a call: a success, the code of a refusal, or out of memory.
use Rattle.std.specs.Prelude.{◌≡◌, Option, Some, None, Result, Ok, Err}
use Rattle.mds_request.specs.declared.code.Code.{Code}
use Rattle.mds_request.specs.declared.code.Code.TheVariants.{NoMemory}
use Rattle.mds_world.specs.declared.call_fault.CallFault.{CallFault}
use Rattle.mds_world.specs.declared.call_fault.CallFault.TheVariants.{Refused, Exhausted}

-- the code of the refusal, or none for out of memory
abbrev pub denial : CallFault → Option Code
denial (Refused code) = Some code
denial Exhausted = None

abbrev pub unless_memory : Code → Option Code
unless_memory NoMemory = None
unless_memory code = Some code

abbrev pub Denies : {Y : Type 0} → Option Code → Result Y Code → Type 0
Denies None defined = Unit {0}
Denies (Some code) defined = defined ≡ Err code

-- the result, under `view`, is the defined one, unless memory ran out
abbrev pub Meets : {X Y : Type 0} → (X → Y) → Result X CallFault → Result Y Code → Type 0
Meets view (Ok x) defined = defined ≡ Ok (view x)
Meets view (Err denied) defined = Denies (denial denied) defined

-- the code of the reply
abbrev pub code_of : CallFault → Code
code_of (Refused code) = code
code_of Exhausted = NoMemory
