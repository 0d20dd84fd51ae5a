use Rattle.std.proofs.Common.{◌∷◌, [], ◌∙◌, ap, sym}
use Rattle.mds_request.specs.Call.{all_some}
use Rattle.server_responses.specs.Methods.{methods_at}
use Rattle.server_responses.proofs.methods.at_three.Goals as goal

pub returns-in-drafts-default : goal.returns-in-drafts-default
returns-in-drafts-default c =
    c.in_drafts.ensures
    ∙ ap (λ first. methods_at (all_some (first ∷ c.args.second.now ∷ c.args.third.now ∷ []))) (sym c.in-drafts-default.is-drafts-0)

pub returns-in-app-default : goal.returns-in-app-default
returns-in-app-default c =
    c.behind_app.ensures
    ∙ ap (λ first. methods_at (all_some (first ∷ c.args.second.now ∷ c.args.third.now ∷ []))) (sym c.in-app-default.is-app-0)
