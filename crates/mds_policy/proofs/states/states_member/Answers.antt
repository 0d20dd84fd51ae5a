use Rattle.std.proofs.Common.{◌≡◌, map, sym, ap, ◌∙◌}
use Rattle.mds_text.specs.Tree.{members_of}
use Rattle.mds_json.specs.Node.{node_view, node_member_view}
use Rattle.mds_text.specs.declared.field.Field.TheVariants.{States}
use Rattle.mds_json.proofs.Nodes.{node-Object}
use Rattle.mds_policy.specs.Reading.{states_of, states_member}
use Rattle.mds_policy.proofs.states.states_member.Goals as goal

pub returns-in-Object-clause-value : goal.returns-in-Object-clause-value
returns-in-Object-clause-value c =
    let whole : states_member States (node_view c.args.value.now) ≡ states_of (members_of (map node_member_view c.deref.result.now)) =
    ap (states_member States) (ap node_view c.in-Object.is ∙ node-Object c.in-Object.members) ∙ ap (λ ms. states_of (members_of (map node_member_view ms))) (sym c.deref.ensures.value) in
    rw whole c.states_of.ensures
