use Rattle.std.proofs.Common.{map, pos, codes, sym, ap, ◌∙◌}
use Rattle.mds_text.specs.Tree.{object, int, members_of}
use Rattle.mds_text.specs.View.{view, member_view}
use Rattle.mds_text.proofs.Views.{view-Object}
use Rattle.mds_policy.specs.Served.{dated, with_member}
use Rattle.mds_policy.proofs.dated_tree.with_published_date.Goals as goal

pub returns-in_ok-members_with_date-in-Object : goal.returns-in_ok-members_with_date-in-Object
returns-in_ok-members_with_date-in-Object c =
    view-Object c.in_ok-members_with_date-in-Object.field-0
    ∙ ap object c.in_ok-members_with_date-in-Object.ensures
    ∙ ap (λ ms. object (with_member (codes "published_date") (int (pos c.args.moment)) (members_of (map member_view ms)))) c.deref.ensures.value
    ∙ sym (ap (dated c.args.moment) (ap view c.in-Object.is ∙ view-Object c.in-Object.members))
