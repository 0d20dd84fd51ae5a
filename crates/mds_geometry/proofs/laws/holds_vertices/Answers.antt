use Rattle.std.proofs.Common.{arith}
use Rattle.mds_geometry.proofs.Edges.{holds_vertex}
use Rattle.mds_geometry.proofs.laws.holds_vertices.Goals as goal

pub returns : goal.returns
returns c = λ rings ring vertex among is_ring v. holds_vertex rings ring vertex among (omega arith) v
