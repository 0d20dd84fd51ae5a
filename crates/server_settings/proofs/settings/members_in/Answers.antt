use Rattle.std.proofs.Common.{Some, map, sym, ap, ◌∙◌}
use Rattle.mds_text.proofs.Views.{view-Object}
use Rattle.mds_text.specs.Tree.{members_of}
use Rattle.mds_text.specs.View.{member_view, view}
use Rattle.server_settings.specs.Settings.{members_in}
use Rattle.server_settings.proofs.settings.members_in.Goals as goal

pub returns-in-Object : goal.returns-in-Object
returns-in-Object c =
    ap (λ ms. Some (members_of (map member_view ms))) c.deref.ensures.value
    ∙ sym (ap members_in (ap view c.in-Object.is ∙ view-Object c.in-Object.members))
