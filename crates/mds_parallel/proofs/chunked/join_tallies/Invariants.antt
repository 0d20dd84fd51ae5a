use Rattle.std.proofs.Common.{ℕ, List, flat_map, take}
use Rattle.mds_geometry.specs.declared.position.Position.{Position}
use Rattle.mds_policy.specs.Policy.{policy_document}
use Rattle.mds_match.specs.Row.{Row}
use Rattle.mds_verdict.specs.Gathered.{IsTally}
use Rattle.mds_parallel.specs.Chunks.{AreTallies}
use Rattle.mds_parallel.proofs.chunked.join_tallies.Given as goal

-- the chunks so far are joined
abbrev pub invariant-loop-part : goal.invariant-loop-part
invariant-loop-part l =
    (polygons : List ℕ → List (List (List Position))) (pieces : List (List Row)) (t : ℕ) → AreTallies (policy_document l.policy) polygons pieces l.fn.local t l.parts
    → IsTally l.whole (policy_document l.policy) polygons (flat_map (λ piece. piece) (take l.part-index pieces)) l.fn.local t
