use Rattle.std.proofs.Common.{◌∷◌, [], ◌∙◌, ap, sym}
use Rattle.mds_request.specs.Call.{all_some}
use Rattle.server_responses.specs.Methods.{methods_at}
use Rattle.server_responses.proofs.methods.at_two.Goals as goal

pub returns-in-fleet : goal.returns-in-fleet
returns-in-fleet c = c.in_fleet.ensures ∙ ap (λ first. methods_at (all_some (first ∷ c.args.second.now ∷ []))) (sym c.in-fleet.is)

pub returns-in-app : goal.returns-in-app
returns-in-app c = c.in_app.ensures ∙ ap (λ first. methods_at (all_some (first ∷ c.args.second.now ∷ []))) (sym c.in-app.is)
