use Rattle.std.proofs.Common.{drop}
use Rattle.mds_geometry.specs.Bounds.{AreBanded}
use Rattle.mds_geometry.proofs.Banded.{IsSeenFrom}
use Rattle.mds_geometry.proofs.blocks.ray_test_by_blocks.Given as goal

abbrev pub invariant-loop-band : goal.invariant-loop-band
invariant-loop-band l = record {
  banded : AreBanded l.size (drop l.band-index l.bands) l.rest;
  seen : IsSeenFrom l.positions l.rest l.at l.odd;
}
