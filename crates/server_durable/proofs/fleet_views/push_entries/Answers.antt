use Rattle.std.proofs.Common.{◌≡◌, ◌++◌, ◌∷◌, ℕ, List, map, ap, sym, ◌∙◌}
use Rattle.mds_text.specs.Printed.{comma_if}
use Rattle.mds_request.specs.Reply.{Reply}
use Rattle.server_app.specs.ComplianceList.{entries_text, entry_text}
use Rattle.server_app.specs.OperatorNames.{badge_view}
use Rattle.server_app.specs.declared.operator_names.OperatorName.{OperatorName}
use Rattle.server_durable.proofs.OwnBodies.{entry_next}
use Rattle.server_durable.proofs.fleet_views.push_entries.Goals as goal

pub loop-answer-preserved : goal.loop-answer-preserved
loop-answer-preserved c =
    let text = c.loop-answer.text.items in
    let later = c.loop-answer.is_later in
    let answer = c.in-Some.answer.now in
    let operator = c.in-Some-split_first.operator.now in
    let bodies = map (λ (reply : Reply). reply.body) c.in-Some.further.now in
    let badges = map badge_view c.in-Some-split_first.others.now in
    let answers_are : c.loop-answer.rest.now ≡ answer ∷ c.in-Some.further.now = c.in-Some.ensures.cases.0 in
    let names_are : c.loop-answer.names.now ≡ operator ∷ c.in-Some-split_first.others.now = c.in-Some-split_first.ensures.cases.0 in
    entry_next later answer.body bodies (badge_view operator) badges text c.push_compliance.new.text.items _
    (c.in_ok-push_compliance.ensures ∙ ap (λ (body : List ℕ). text ++ comma_if later ++ entry_text body (badge_view operator)) c.body.ensures)
    (sym (ap (λ (rest : List Reply). text ++ entries_text later (map (λ (reply : Reply). reply.body) rest) (map badge_view c.loop-answer.names.now)) answers_are
    ∙ ap (λ (names : List OperatorName). text ++ entries_text later (answer.body ∷ bodies) (map badge_view names)) names_are)
    ∙ c.loop-answer.invariant)
