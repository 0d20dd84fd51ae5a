use Rattle.std.proofs.Common.{rules, ◌≡◌, None, Some, option_map, ap, ◌∙◌}
use Rattle.mds_request.specs.declared.config.Actor.TheVariants.{Author}
use Rattle.server_durable.proofs.Owning.{owned_still}
use Rattle.server_durable.proofs.RoomLogging.{underway_appended, underway_taken}
use Rattle.server_durable.proofs.room_turn.record_commit.RecordCommitPublishGuard.may_publish.Goals as goal

pub invariant_of-self-clause-underway : goal.invariant_of-self-clause-underway
invariant_of-self-clause-underway g c =
    let it = c.args.self.now in
    let none : it.held ≡ None = search rules in
    underway_taken g.N.LogName.client_of g.T.RecordPayload.reserved g.T.RecordPayload.own (λ held. held.place) it.held _ it.records.own it.shown
    none (search rules) it.underway

pub invariant_of-self-2 : goal.invariant_of-self-2
invariant_of-self-2 g c =
    let mine = c.args.self.now.records in
    let same = c.append_synced.ensures.client in
    (owned_still g.K.HallName.configuration g.N.LogName.client_of Author mine.own.client c.append_synced.new.own.client mine.owned same, (same ∙ mine.numbered, tt))

pub invariant_of-self-in-Ok-clause-underway : goal.invariant_of-self-in-Ok-clause-underway
invariant_of-self-in-Ok-clause-underway g c =
    let it = c.args.self.now in
    let held : it.held ≡ Some c.in-Some.held = search rules in
    let gone : c.take.new.self ≡ None = search rules in
    underway_appended g.N.LogName.client_of g.T.RecordPayload.reserved g.T.RecordPayload.own (λ own. own.place) it.held c.in-Some.held
    (option_map (λ own. own.place) c.take.new.self) it.records.own c.append_synced.new.own it.shown c.in-Ok.stamp held (ap (option_map (λ own. own.place)) gone)
    it.underway c.in-Ok.ensures.records c.in-Ok.ensures.own c.append_synced.ensures.client
