use Rattle.std.proofs.Common.{ap, ◌∙◌}
use Rattle.std.specs.List.{slice_get}
use Rattle.server_app.specs.Whoami.{told_operator}
use Rattle.server_app.proofs.laws.whoami_is_by_own_name.Goals as goal

pub returns : goal.returns
returns c one other place alike oversight zone =
    ap (λ o. told_operator o one.zone (slice_get one.operators place)) oversight
    ∙ ap (λ z. told_operator other.oversight z (slice_get one.operators place)) zone
    ∙ ap (told_operator other.oversight other.zone) alike
