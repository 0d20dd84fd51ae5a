use Rattle.std.proofs.Common.{rules, ◌≡◌, Some, None, Ok, sym, ap, ◌∙◌}
use Rattle.std.proofs.lemmas.Bool.{eqb-true}
use Rattle.mds_request.specs.declared.config.Actor.TheVariants.{Author}
use Rattle.server_admission.specs.Actor.{index_of}
use Rattle.server_durable.specs.Logged.{ShowsTurns}
use Rattle.server_durable.specs.RoomLogged.{WillOwnTurns}
use Rattle.server_durable.proofs.Logging.{shows}
use Rattle.server_durable.proofs.Owning.{owned_rest, owned_still}
use Rattle.server_durable.proofs.RoomLogging.{as_that, of_that, owns_appended, owns_completed, shows_appended}
use Rattle.server_durable.proofs.room_turn.record_commit.RecordCommit.complete.Goals as goal

pub append_or_release-requires : goal.append_or_release-requires
append_or_release-requires g c =
    let left = c.remaining_reservation-reserved in
    owned_rest (λ held. held.place) g.N.LogName.client_of c.args.self.records.own.client g.T.RecordPayload.text left.result c.args.self.held
    left.ensures.held left.ensures.title c.args.self.is_owned

pub invariant_of-records : goal.invariant_of-records
invariant_of-records g c =
    let mine = c.args.self.records in
    record {
      owned =
          owned_still g.K.HallName.configuration g.N.LogName.client_of Author mine.own.client c.append_or_release.new.own.client mine.owned
          c.append_or_release.ensures.client;
      numbered = c.append_or_release.ensures.client ∙ mine.numbered;
    }

pub of-requires : goal.of-requires
of-requires g c =
    let its = g.T.RecordPayload in
    let all = c.in-Some-turns.all.front.seen.log in
    let will = of_that (λ turns. ∥ WillOwnTurns g.K.HallName.configuration g.N.LogName.client_of its.reserved its.own c.args.status turns.front.seen.log ∥₁)
    c.args.turns c.in-Some-turns.all c.in-Some-turns.is c.requires in
    let none : c.args.self.shown ≡ None = search rules in
    let left = c.remaining_reservation-reserved in
    owns_completed g.K.HallName.configuration g.N.LogName.client_of its.reserved its.own left.result _ c.args.self.records.own c.append_or_release.new.own
    c.args.self.shown c.args.status all none left.ensures.held c.args.self.underway will c.append_or_release.ensures.client c.in_ok-stamp.ensures.records

pub returns-in_default-shown-clause-shows : goal.returns-in_default-shown-clause-shows
returns-in_default-shown-clause-shows g c =
    let its = g.T.RecordPayload in
    let all = c.in-Some-turns.all.front.seen.log in
    let will = of_that (λ turns. ∥ WillOwnTurns g.K.HallName.configuration g.N.LogName.client_of its.reserved its.own c.args.status turns.front.seen.log ∥₁)
    c.args.turns c.in-Some-turns.all c.in-Some-turns.is c.requires in
    let none : c.args.self.shown ≡ None = search rules in
    let left = c.remaining_reservation-reserved in
    let owns = owns_completed g.K.HallName.configuration g.N.LogName.client_of its.reserved its.own left.result _ c.args.self.records.own c.append_or_release.new.own
    c.args.self.shown c.args.status all none left.ensures.held c.args.self.underway will c.append_or_release.ensures.client c.in_ok-stamp.ensures.records in
    as_that (λ turns. ∥ ShowsTurns g.K.HallName.configuration g.N.LogName.client_of (index_of Author) turns.front.seen.log c.in_ok-stamp.stamp ∥₁)
    c.args.turns c.in-Some-turns.all c.in-Some-turns.is
    (shows g.K.HallName.configuration g.N.LogName.client_of c.append_or_release.new.own (index_of Author) all c.in_ok-stamp.stamp owns
    (c.append_or_release.ensures.client ∙ c.args.self.records.numbered) c.in_ok-stamp.ensures.stamp)

pub of-requires-then-is_accepted : goal.of-requires-then-is_accepted
of-requires-then-is_accepted g c =
    let its = g.T.RecordPayload in
    let mine = c.args.self in
    let stamp = c.in_ok-stamp-2.stamp in
    let will = of_that (λ turns. ∥ WillOwnTurns g.K.HallName.configuration g.N.LogName.client_of its.reserved its.own c.args.status turns.front.seen.log ∥₁)
    c.args.turns c.in-Some-turns.all c.in-Some-turns.is c.requires in
    let given : c.in-Some-shown.shown ≡ Ok stamp = c.in_ok-stamp-2.was in
    let success : c.args.status ≡ 200 = eqb-true c.args.status 200 (sym c.is_accepted.ensures ∙ c.if-is_accepted.true) in
    owns_appended g.K.HallName.configuration g.N.LogName.client_of its.reserved its.own _ mine.records.own mine.shown stamp c.args.status
    c.in-Some-turns.all.front.seen.log (c.in-Some-shown.is ∙ ap Some given) success mine.underway will

pub returns-then-is_accepted-clause-shows : goal.returns-then-is_accepted-clause-shows
returns-then-is_accepted-clause-shows g c =
    let its = g.T.RecordPayload in
    let mine = c.args.self in
    let stamp = c.in_ok-stamp-2.stamp in
    let all = c.in-Some-turns.all.front.seen.log in
    let will = of_that (λ turns. ∥ WillOwnTurns g.K.HallName.configuration g.N.LogName.client_of its.reserved its.own c.args.status turns.front.seen.log ∥₁)
    c.args.turns c.in-Some-turns.all c.in-Some-turns.is c.requires in
    let given : c.in-Some-shown.shown ≡ Ok stamp = c.in_ok-stamp-2.was in
    let success : c.args.status ≡ 200 = eqb-true c.args.status 200 (sym c.is_accepted.ensures ∙ c.if-is_accepted.true) in
    let some = c.in-Some-shown.is ∙ ap Some given in
    let owns = owns_appended g.K.HallName.configuration g.N.LogName.client_of its.reserved its.own _ mine.records.own mine.shown stamp c.args.status all
    some success mine.underway will in
    as_that (λ turns. ∥ ShowsTurns g.K.HallName.configuration g.N.LogName.client_of (index_of Author) turns.front.seen.log stamp ∥₁)
    c.args.turns c.in-Some-turns.all c.in-Some-turns.is
    (shows_appended g.K.HallName.configuration g.N.LogName.client_of its.reserved its.own _ mine.records.own mine.shown stamp all some mine.underway owns
    mine.records.numbered)
