use Rattle.std.proofs.Common.{◌≡◌, List, ℕ, [], ◌∷◌, ◌++◌, filter, map, pos, codes, refl, sym, ap, ◌∙◌}
use Rattle.mds_text.specs.Tree.{object, int, members_of}
use Rattle.mds_text.specs.View.{view, member_view}
use Rattle.mds_text.proofs.Views.{view-Object}
use Rattle.server_public.specs.Withdrawal.{ended, is_not_end}
use Rattle.server_public.proofs.Members.{listed_is}
use Rattle.server_public.proofs.with_end.with_end.Goals as goal

pub returns-in_ok-members_with_end-in-Object : goal.returns-in_ok-members_with_end-in-Object
returns-in_ok-members_with_end-in-Object c =
    let end = (codes "end_date", int (pos c.args.end)) ∷ [] in
    view-Object c.in_ok-members_with_end-in-Object.field-0
    ∙ ap (λ ms. object (members_of ms)) c.in_ok-members_with_end-in-Object.ensures
    ∙ ap (λ ms. object (members_of (filter is_not_end (map member_view ms) ++ end))) c.deref.ensures.value
    ∙ ap (λ ms. object (members_of (filter is_not_end ms ++ end))) (sym (listed_is (map member_view c.in-Object.members.items)))
    ∙ sym (ap (ended c.args.end) (ap view c.in-Object.is ∙ view-Object c.in-Object.members))
