-- Tallies of pieces.
use Rattle.std.proofs.Common.{◌≡◌, ℕ, ◌<◌, List, [], Ok, Result, length, get_or, subst, sym, ◌∙◌}
use Rattle.std.specs.Result.{IfOk}
use Rattle.std.specs.declared.alloc.AllocError.{AllocError}
use Rattle.mds_geometry.specs.declared.position.Position.{Position}
use Rattle.mds_policy.specs.Policy.{Policy}
use Rattle.mds_match.specs.declared.local.Local.{Local}
use Rattle.mds_match.specs.Row.{Row}
use Rattle.mds_verdict.specs.Gathered.{IsTally}
use Rattle.mds_verdict.specs.declared.tally.VerdictTally.{VerdictTally}
use Rattle.mds_parallel.specs.Chunks.{AreTallies}
use Rattle.mds_parallel.proofs.Pieces.{AllZip-at}

-- the tally of one piece
pub part_at : (policy : Policy) (polygons : List ℕ → List (List (List Position))) (pieces : List (List Row)) (local : Local) (t : ℕ) (parts : List (Result VerdictTally AllocError)) (i : ℕ) (part : Result VerdictTally AllocError) (tally : VerdictTally)
    → AreTallies policy polygons pieces local t parts → i < length parts → part ≡ get_or parts i part → part ≡ Ok tally → IsTally tally policy polygons (get_or pieces i []) local t
part_at policy polygons pieces local t parts i part tally are within here ok =
    let fits : List Row → Result VerdictTally AllocError → Type 0 = λ piece p. IfOk p (λ y. IsTally y policy polygons piece local t) in
    subst (fits (get_or pieces i [])) (sym here ∙ ok) (AllZip-at fits pieces parts i [] part are within)
