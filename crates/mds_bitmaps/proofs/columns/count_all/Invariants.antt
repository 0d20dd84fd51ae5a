use Rattle.std.proofs.Common.{◌≡◌, ℕ, List, map, take}
use Rattle.mds_geometry.specs.declared.position.Position.{Position}
use Rattle.mds_policy.specs.Policy.{policy_document}
use Rattle.mds_match.specs.Row.{Row}
use Rattle.mds_verdict.specs.Gathered.{gathered}
use Rattle.mds_verdict.specs.Verdict.{verdict_document}
use Rattle.mds_bitmaps.specs.Columns.{AreOf}
use Rattle.mds_bitmaps.proofs.columns.count_all.Given as goal

-- the rows so far are counted
abbrev pub invariant-loop-place : goal.invariant-loop-place
invariant-loop-place l =
    (polygons : List ℕ → List (List (List Position))) (rows : List Row) → AreOf (policy_document l.policy) polygons rows l.columns.devices.now l.columns.sinces.now l.columns.masks.now
    → map verdict_document l.held.items ≡ gathered (policy_document l.policy) polygons (take l.place rows) l.fn.local l.moment
