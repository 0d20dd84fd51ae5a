use Rattle.std.proofs.Common.{◌≡◌, codes, ap, ◌∙◌}
use Rattle.mds_text.specs.Tree.{Json, text}
use Rattle.server_app.specs.Oversight.{oversight_word}
use Rattle.server_app.proofs.Roles.{one_before}
use Rattle.server_app.proofs.identity.add_role.Goals as goal

pub returns : goal.returns
returns c =
    one_before c.add_role_and_zone.result _ _ _ _ (codes "oversight", text (oversight_word c.args.oversight)) _ c.in_ok-add_member.ensures.ok
    (ap (λ (value : Json). (codes "oversight", value)) (c.in_ok-text_tree.ensures ∙ ap text c.word.ensures)) c.add_role_and_zone.ensures
