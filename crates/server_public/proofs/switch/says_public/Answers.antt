use Rattle.std.proofs.Common.{codes, map, sym, ap, ◌∙◌}
use Rattle.mds_text.proofs.Views.{view-Object}
use Rattle.mds_text.specs.Fields.{find_member}
use Rattle.mds_text.specs.Tree.{members_of}
use Rattle.mds_text.specs.View.{member_view, view}
use Rattle.server_public.specs.Switch.{is_true, says_public}
use Rattle.server_public.proofs.switch.says_public.Goals as goal

pub returns-in-Object : goal.returns-in-Object
returns-in-Object c =
    c.has_true.ensures
    ∙ (ap (λ ms. is_true (find_member (codes "public") (members_of (map member_view ms)))) c.deref.ensures.value
    ∙ sym (ap says_public (ap view c.in-Object.is ∙ view-Object c.in-Object.members)))
