use Rattle.std.proofs.Common.{take}
use Rattle.mds_geometry.specs.Bounds.{AreIn}
use Rattle.mds_geometry.proofs.blocks.band_of.Given as goal

abbrev pub invariant-loop-position : goal.invariant-loop-position
invariant-loop-position l = AreIn l.band (take l.position-index l.positions)
