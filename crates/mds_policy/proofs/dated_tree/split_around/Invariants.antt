use Rattle.std.proofs.Common.{map}
use Rattle.mds_text.specs.View.{member_view}
use Rattle.mds_policy.proofs.Placing.{Passed}
use Rattle.mds_policy.proofs.dated_tree.split_around.Given as goal

abbrev pub invariant-loop-place : goal.invariant-loop-place
invariant-loop-place l = Passed l.name (map member_view l.members) l.place
