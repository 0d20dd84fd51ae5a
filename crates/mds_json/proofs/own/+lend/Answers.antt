use Rattle.std.proofs.Common.{map, sym, ap, ◌∙◌}
use Rattle.mds_text.specs.Tree.{object, members_of}
use Rattle.mds_text.specs.View.{view, member_view}
use Rattle.mds_text.proofs.Views.{view-Object}
use Rattle.mds_json.proofs.Nodes.{node-Object}
use Rattle.mds_json.proofs.own.+lend.Goals as goal

pub lend-returns-in_ok-lend_members-in-Object : goal.lend-returns-in_ok-lend_members-in-Object
lend-returns-in_ok-lend_members-in-Object t c =
    node-Object c.in_ok-lend_members-in-Object.field-0
    ∙ ap (λ ms. object (members_of ms)) c.in_ok-lend_members-in-Object.ensures
    ∙ ap (λ ms. object (members_of (map member_view ms))) c.deref-in-Object.ensures.value
    ∙ sym (ap view c.in-Object.is ∙ view-Object c.in-Object.members)
