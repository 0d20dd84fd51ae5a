use Rattle.std.proofs.Common.{◌≡◌, map, Some, Ok, option_map, sym, ap, ◌∙◌}
use Rattle.mds_text.specs.Field.{name_of}
use Rattle.mds_text.specs.Fields.{find_member, member_at, present}
use Rattle.mds_text.specs.Tree.{null, members_of}
use Rattle.mds_json.specs.Node.{node_view, node_member_view}
use Rattle.mds_json.proofs.Nodes.{node-Null, node-Object}
use Rattle.mds_json.proofs.fields.member_at.Goals as goal

pub returns-in-Some-Null-clause-value : goal.returns-in-Some-Null-clause-value
returns-in-Some-Null-clause-value c =
    let null_there = ap node_view c.in-Some-Null.field-0-is ∙ node-Null in
    let found : find_member c.name.result.now (members_of (map node_member_view c.deref.result.now)) ≡ Some null =
    sym c.find_member.ensures ∙ ap (option_map (λ t. node_view t.now)) c.in-Some-Null.is ∙ ap Some null_there in
    let named : find_member (name_of c.args.field) (members_of (map node_member_view c.in-Object.members.items)) ≡ Some null =
    rw (← c.name.ensures, ← c.deref.ensures.value) found in
    ap (λ d. member_at d c.args.field) (ap node_view c.in-Object.is ∙ node-Object c.in-Object.members) ∙ ap (λ o. Ok (present o)) named
