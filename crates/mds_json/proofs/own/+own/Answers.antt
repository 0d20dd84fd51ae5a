use Rattle.std.proofs.Common.{map, sym, ap, ◌∙◌}
use Rattle.mds_text.specs.Tree.{object, members_of}
use Rattle.mds_text.proofs.Views.{view-Object}
use Rattle.mds_json.specs.Node.{node_view, node_member_view}
use Rattle.mds_json.proofs.Nodes.{node-Object}
use Rattle.mds_json.proofs.own.+own.Goals as goal

pub own-returns-in_ok-own_members-in-Object : goal.own-returns-in_ok-own_members-in-Object
own-returns-in_ok-own_members-in-Object t c =
    view-Object c.in_ok-own_members-in-Object.field-0
    ∙ ap (λ ms. object (members_of ms)) c.in_ok-own_members-in-Object.ensures
    ∙ ap (λ ms. object (members_of (map node_member_view ms))) c.deref-in-Object.ensures.value
    ∙ sym (ap node_view c.in-Object.is ∙ node-Object c.in-Object.members)
