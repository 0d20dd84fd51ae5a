use Rattle.std.proofs.Common.{◌≡◌, map, drop}
use Rattle.mds_text.specs.Tree.{members_of}
use Rattle.mds_json.specs.Node.{node_member_view}
use Rattle.mds_text.proofs.Lists.{with_front}
use Rattle.mds_policy.specs.Policy.{states_document}
use Rattle.mds_policy.specs.Reading.{states_of}
use Rattle.mds_policy.proofs.states.states_of.Given as goal

-- what was read and what is left are all states
abbrev pub invariant-loop-member : goal.invariant-loop-member
invariant-loop-member l =
    with_front (map states_document l.states.items) (states_of (members_of (map node_member_view (drop l.member-index l.members)))) ≡ states_of (members_of (map node_member_view l.members))
