-- Tallies of chunks of an operator's vehicles.
use Rattle.std.specs.Prelude.{◌≡◌, ℕ, ◌<◌, ◌^◌, List, Result, IfOk, flat_map, length}
use Rattle.std.specs.List.{AllZip}
use Rattle.std.specs.declared.alloc.AllocError.{AllocError}
use Rattle.mds_geometry.specs.declared.position.Position.{Position}
use Rattle.mds_policy.specs.Policy.{Policy}
use Rattle.mds_match.specs.declared.local.Local.{Local}
use Rattle.mds_match.specs.declared.resolved.ResolvedPolicy.{ResolvedPolicy}
use Rattle.mds_match.specs.Resolved.{Finds, Suffices}
use Rattle.mds_match.specs.Row.{Row}
use Rattle.mds_verdict.specs.Gathered.{IsTally}
use Rattle.mds_verdict.specs.declared.tally.VerdictTally.{VerdictTally}

-- the policy is resolved, with some geographies
abbrev pub IsResolved : ResolvedPolicy → Policy → Local → Type 0
IsResolved resolved policy local = (polygons : List ℕ → List (List (List Position))) × Finds resolved policy polygons local

-- a tally of these rows, whatever the geographies are
abbrev pub IsTallyBy : ResolvedPolicy → Policy → List Row → Local → ℕ → VerdictTally → Type 0
IsTallyBy resolved policy rows local t tally =
    (polygons : List ℕ → List (List (List Position))) → Finds resolved policy polygons local → IsTally tally policy polygons rows local t

-- those that didn't run out of memory are tallies of the pieces, in order
abbrev pub AreTallies : Policy → (List ℕ → List (List (List Position))) → List (List Row) → Local → ℕ → List (Result VerdictTally AllocError) → Type 0
AreTallies policy polygons pieces local t parts =
    AllZip (λ piece part. IfOk part (λ tally. IsTally tally policy polygons piece local t)) pieces parts

-- they are tallies of some pieces
abbrev pub AreOfPieces : Policy → Local → List (Result VerdictTally AllocError) → Type 0
AreOfPieces policy local parts =
    (polygons : List ℕ → List (List (List Position))) × (pieces : List (List Row)) × (t : ℕ)
    × AreTallies policy polygons pieces local t parts × (length (flat_map (λ piece. piece) pieces) < 2 ^ 63)
