use Rattle.std.proofs.Common.{◌≡◌, ◌++◌, List, length, take}
use Rattle.mds_geometry.specs.Bounds.{AreBanded}
use Rattle.mds_geometry.specs.declared.band.Band.{Band}
use Rattle.mds_geometry.proofs.blocks.bands_of.Given as goal

-- once the blocks that are left have bands, all have
abbrev pub invariant-loop-place : goal.invariant-loop-place
invariant-loop-place l = record {
  long : length l.bands ≡ 16;
  banded : (more : List Band) → AreBanded l.size more l.rest → AreBanded l.size (take l.place l.bands ++ more) l.positions;
}
