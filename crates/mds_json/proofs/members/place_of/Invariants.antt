use Rattle.std.proofs.Common.{map}
use Rattle.mds_json.specs.Node.{node_member_view}
use Rattle.mds_json.proofs.Placing.{Passed}
use Rattle.mds_json.proofs.members.place_of.Given as goal

abbrev pub invariant-loop-place : goal.invariant-loop-place
invariant-loop-place l = Passed l.name (map node_member_view l.members) l.place
