-- The relation of a reading to its definition.
use Rattle.std.specs.Prelude.{◌≡◌, List, ℕ, Result, Ok, Err, string_bytes}
use Rattle.mds_request.specs.Configuration.{Operator}
use Rattle.mds_config_error.specs.declared.operators.ReadOperator.{ReadOperator as Named}
use Rattle.mds_config_error.specs.declared.stop.DiagnosisStop.{DiagnosisStop}
use Rattle.mds_config_error.specs.declared.stop.DiagnosisStop.TheVariants.{Wrong as Stopped, NoMemory}
use Rattle.mds_config_error.specs.declared.wrong.Wrong.{Wrong}

abbrev pub operator : Named → Operator
operator o = record { id = o.id; limit = o.limit; token = string_bytes o.token }

-- the value that is read, under `view`, is the defined one
abbrev pub Shows : {X Y E : Type 0} → (X → Y) → Result X E → Result Y E → Type 0
Shows view (Ok x) defined = defined ≡ Ok (view x)
Shows view (Err e) defined = defined ≡ Err e

-- the same, unless memory ran out
abbrev pub Tells : {X Y : Type 0} → (X → Y) → Result X DiagnosisStop → Result Y Wrong → Type 0
Tells view (Ok x) defined = defined ≡ Ok (view x)
Tells view (Err (Stopped w)) defined = defined ≡ Err w
Tells view (Err NoMemory) defined = Unit {0}
