use Rattle.std.proofs.Common.{map, sym, ap, ◌∙◌}
use Rattle.mds_text.specs.Tree.{object, members_of}
use Rattle.mds_text.specs.View.{view, member_view}
use Rattle.mds_text.proofs.Views.{view-Object}
use Rattle.mds_text.proofs.make.+copy_tree.Goals as goal

pub copy_tree-returns-in_ok-copy_members-in-Object : goal.copy_tree-returns-in_ok-copy_members-in-Object
copy_tree-returns-in_ok-copy_members-in-Object t c =
    view-Object c.in_ok-copy_members-in-Object.field-0
    ∙ ap (λ ms. object (members_of ms)) c.in_ok-copy_members-in-Object.ensures
    ∙ ap (λ ms. object (members_of (map member_view ms))) c.deref-in-Object.ensures.value
    ∙ sym (ap view c.in-Object.is ∙ view-Object c.in-Object.members)
