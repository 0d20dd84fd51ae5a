use Rattle.std.proofs.Common.{◌≡◌, ◌*◌, ◌≤◌, take}
use Rattle.std.specs.List.{sum_by}
use Rattle.mds_geometry.specs.Strips.{reach}
use Rattle.mds_geometry.proofs.extent.reach_of.Given as goal

abbrev pub invariant-loop-edge : goal.invariant-loop-edge
invariant-loop-edge l = record {
  few : l.rows ≤ 4294967295 * l.edge-index;
  fewer : l.columns ≤ 4294967295 * l.edge-index;
  summed : l.rows ≡ sum_by reach (take l.edge-index l.edges);
}
