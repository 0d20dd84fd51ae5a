use Rattle.std.proofs.Common.{◌≡◌, ℕ, List, Ok, IfOk, sym, ap, subst, ◌∙◌}
use Rattle.mds_request.specs.Call.{call_of}
use Rattle.mds_request.specs.declared.call.Call.TheVariants as call
use Rattle.mds_request.specs.declared.config.Actor.{Actor}
use Rattle.mds_request.specs.declared.config.Actor.TheVariants.{Operator}
use Rattle.mds_request.proofs.Callers.{call_of-caller}
use Rattle.server_admission.specs.Actor.{index_of}
use Rattle.server_state.specs.Openings.{openings_of}
use Rattle.server_state.specs.WholeRequest.{request_heard}
use Rattle.server_durable.specs.DurableResponse.{IsListed, IsRecordedTurn}
use Rattle.server_durable.specs.Logged.{ShowsTurns}
use Rattle.server_durable.specs.RoomLogged.{IsLoggedRoomTurn}
use Rattle.server_durable.proofs.responding.carry_out.Goals as goal

pub returns-in-Author-clause-turn : goal.returns-in-Author-clause-turn
returns-in-Author-clause-turn g c =
    let own = g.K.HallName.configuration in
    let request = request_heard c.args.heard in
    let resolved : call_of own request ≡ Ok (call.Author c.in-Author.call) = c.requires.resolved ∙ ap Ok c.in-Author.is in
    subst (λ (who : Actor). IfOk c.room_turn_of.result (λ answered. IsRecordedTurn own who request answered.answer answered.stamp))
    (sym (call_of-caller own request (call.Author c.in-Author.call) resolved)) c.room_turn_of.ensures.recorded

pub returns-in-Author-clause-listed : goal.returns-in-Author-clause-listed
returns-in-Author-clause-listed g c =
    let own = g.K.HallName.configuration in
    let openings = openings_of c.args.city.now.hall in
    let request = request_heard c.args.heard in
    let resolved : call_of own request ≡ Ok (call.Author c.in-Author.call) = c.requires.resolved ∙ ap Ok c.in-Author.is in
    let listed = subst (λ (client_of : List ℕ → ℕ).
    IfOk c.room_turn_of.result (λ answered. ∥ IsLoggedRoomTurn own client_of openings.room request answered.answer answered.stamp ∥₁))
    c.args.city.now.named c.room_turn_of.ensures.listed in
    subst (λ (who : Actor). IfOk c.room_turn_of.result (λ answered. IsListed own openings who request answered.answer answered.stamp))
    (sym (call_of-caller own request (call.Author c.in-Author.call) resolved)) listed

pub returns-in-Ok-clause-turn : goal.returns-in-Ok-clause-turn
returns-in-Ok-clause-turn g c =
    let own = g.K.HallName.configuration in
    let request = request_heard c.args.heard in
    let resolved : call_of own request ≡ Ok (call.Operator c.in-Operator.place c.in-Operator.call) = c.requires.resolved ∙ ap Ok c.in-Operator.is in
    subst (λ (who : Actor). IsRecordedTurn own who request c.in-Ok.turn.answered.answer c.in-Ok.turn.answered.stamp)
    (sym (call_of-caller own request (call.Operator c.in-Operator.place c.in-Operator.call) resolved)) c.in-Ok.ensures.recorded

pub returns-in-Ok-clause-listed : goal.returns-in-Ok-clause-listed
returns-in-Ok-clause-listed g c =
    let own = g.K.HallName.configuration in
    let openings = openings_of c.args.city.now.hall in
    let request = request_heard c.args.heard in
    let place = c.in-Operator.place in
    let turn = c.in-Ok.turn in
    let items = turn.turns.front.seen.log in
    let resolved : call_of own request ≡ Ok (call.Operator place c.in-Operator.call) = c.requires.resolved ∙ ap Ok c.in-Operator.is in
    let shows = subst (λ (client_of : List ℕ → ℕ). ∥ ShowsTurns own client_of (index_of (Operator place)) items turn.answered.stamp ∥₁)
    c.args.city.now.named c.in-Ok.ensures.shows in
    subst (λ (who : Actor). IsListed own openings who request turn.answered.answer turn.answered.stamp)
    (sym (call_of-caller own request (call.Operator place c.in-Operator.call) resolved)) (items, c.in-Ok.ensures.begins, c.in-Ok.ensures.told, shows)
