-- The client of a request.
use Rattle.std.specs.Prelude.{ℕ, ◌<◌}
use Rattle.mds_request.specs.declared.config.Actor.{Actor}
use Rattle.mds_request.specs.declared.config.Actor.TheVariants.{Operator}

-- an operator's index is below the number of operators
abbrev pub IsWithin : ℕ → Actor → Type 0
IsWithin n (Operator place) = place < n
IsWithin n actor = Unit {0}
