use mathlib.Core.List.{IsPrefix}
use Rattle.std.proofs.Common.{◌≡◌, IfOk, IfSome, IfNone, Ok, option_map, inl, inr, sym, ap, subst, ◌∙◌, ℕ, arith}
use Rattle.mds_request.specs.declared.config.Actor.TheVariants.{Author}
use Rattle.server_state.specs.Openings.{openings_of}
use Rattle.server_state.specs.WholeRequest.{request_heard}
use Rattle.journal_commit.specs.Clients.{Own}
use Rattle.server_durable.specs.Logged.{OwnsTurns}
use Rattle.server_durable.specs.Owners.{IsOwnedBy}
use Rattle.server_durable.specs.Records.{IsAmong, IsReserved, IsSettled}
use Rattle.server_durable.proofs.RoomLogging.{logged_outcome}
use Rattle.server_durable.proofs.Turns.{of_some, recorded_outcome, settled_refused, settled_shown, settled_unasked}
use Rattle.server_durable.proofs.durable_hall.DurableHall.room_turn.Goals as goal

pub new-recording-requires-clause-owned : goal.new-recording-requires-clause-owned
new-recording-requires-clause-owned g c =
    let same = ap (λ records. records.own.client) c.in-Some-records_of.ensures.same in
    subst (λ (client : ℕ). IsOwnedBy g.N.LogName.client_of client c.args.reserved) (sym same) c.requires.owned

pub new-recording-requires-clause-own : goal.new-recording-requires-clause-own
new-recording-requires-clause-own g c = ap (λ records. records.own) c.in-Some-records_of.ensures.same ∙ c.requires.known

pub take-turn-requires-clause-reserved : goal.take-turn-requires-clause-reserved
take-turn-requires-clause-reserved g c = subst (IsReserved g.K.HallName.configuration (request_heard c.args.heard)) c.requires.held c.requires.reserved

pub take-turn-requires-clause-owns : goal.take-turn-requires-clause-owns
take-turn-requires-clause-owns g c =
    let same = ap (λ records. records.own) c.in-Some-records_of.ensures.same ∙ c.requires.known in
    subst (λ (own : Own). ∥ OwnsTurns g.K.HallName.configuration g.N.LogName.client_of own c.deref_mut-room.result.now.turns.front.seen.log ∥₁) same c.in-Some-records_of.ensures.owns

pub returns-clause-listed : goal.returns-clause-listed
returns-clause-listed g c =
    let turn = c.take-turn in
    let opening = (openings_of c.args.self.now.hall).room in
    let before = c.deref_mut-room.result.now.turns.front.seen.log in
    let begun : IsPrefix opening before =
    subst (λ room. IsPrefix opening room.turns.front.seen.log) (sym c.deref_mut-room.ensures.value) c.in-Some.ensures in
    logged_outcome g.K.HallName.configuration g.N.LogName.client_of (λ turns. turns.front.seen.log) (λ answered. answered.answer) (λ answered. answered.stamp)
    opening before begun (request_heard c.args.heard) turn.result.answer turn.result.turns c.complete.result c.complete.ensures.answer turn.ensures.told
    turn.ensures.behind c.complete.ensures.shows

pub returns-clause-recorded : goal.returns-clause-recorded
returns-clause-recorded g c =
    let turn = c.take-turn in
    let reply = turn.result.answer in
    let status = reply.status in
    let recording = turn.result.recording in
    let reserved = c.args.reserved in
    let text = g.T.RecordPayload.text in
    let settled : (answered : _) → c.complete.result ≡ Ok answered → IsSettled reserved status answered.stamp =
    λ answered is. elim turn.ensures.asked [
      | inl same ↦
          settled_unasked (λ held. held.place) text reserved recording.held recording.shown status answered.stamp c.requires.title
          (ap (λ own. option_map (λ held. held.place) own.held) same ∙ c.new-recording.ensures.held)
          (ap (λ own. own.shown) same ∙ c.new-recording.ensures.shown)
          (subst (λ outcome. IfNone recording.shown (IfSome recording.held (λ _. status ≡ 200 → IfOk outcome (λ a. IsAmong text a.stamp)))) is c.complete.ensures.held)
      | inr other ↦ elim other [
        | inl published ↦
            settled_shown text reserved status answered.stamp c.requires.title
            (subst (λ outcome. IfOk outcome (λ a. IsAmong text a.stamp)) is (c.complete.ensures.shown (of_some turn.result.note published turn.ensures.given)))
        | inr refused ↦
            let failed : status ≡ 503 = ap (λ r. r.status) refused in
            settled_refused reserved status answered.stamp (λ success. omega (arith, success, failed))
      ]
    ] in
    recorded_outcome (λ answered. answered.answer) (λ answered. answered.stamp) g.K.HallName.configuration Author (request_heard c.args.heard) reply reserved
    c.complete.result turn.ensures.replies c.requires.reserved c.complete.ensures.answer settled
