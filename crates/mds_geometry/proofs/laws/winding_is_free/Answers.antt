use Rattle.std.proofs.Common.{reverse}
use Rattle.mds_geometry.proofs.Edges.{holds-middle, touches-reverse, crossings-reverse}
use Rattle.mds_geometry.proofs.laws.winding_is_free.Goals as goal

pub returns : goal.returns
returns c = λ before after ring at. holds-middle before after ring (reverse ring) at (touches-reverse ring at) (crossings-reverse ring at)
