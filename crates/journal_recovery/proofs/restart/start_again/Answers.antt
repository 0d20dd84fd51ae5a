use Rattle.std.proofs.Common.{◌≡◌, map, drop, length, refl, sym, subst, arith}
use Rattle.mds_request.specs.Configuration.{configuration}
use Rattle.mds_desk.specs.Desk.{state_of}
use Rattle.mds_desk.specs.Room.{room_of}
use Rattle.journal_entry.specs.Entries.{entry_of}
use Rattle.journal_recovery.specs.Laws.{IsStartedAgain}
use Rattle.journal_recovery.specs.Recovery.{server_of, AreAnswered}
use Rattle.journal_recovery.proofs.Again.{as_new, started, written_back}
use Rattle.journal_recovery.proofs.restart.start_again.Goals as goal

pub returns-in-Ok-replay_all-clause-started : goal.returns-in-Ok-replay_all-clause-started
returns-in-Ok-replay_all-clause-started g c =
    let of = configuration c.args.config in
    let entries = map entry_of c.args.entries.now in
    let room = c.replay_all.new.room in
    let desks = c.replay_all.new.desks in
    let furnished = c.in-Ok.furnished in
    let long : furnished.1.len ≡ length desks = omega (arith, furnished.1.ok.0, c.replay_all.auto.desks, c.deref_mut.ensures.len) in
    let answered : AreAnswered (room_of furnished.0).configuration entries (server_of furnished.0 furnished.1.items) (server_of room desks) =
    subst (λ ds. AreAnswered (room_of furnished.0).configuration entries (server_of furnished.0 ds) (server_of room desks)) c.deref_mut.ensures.value
    c.in-Ok-replay_all.ensures.answered in
    subst (λ ds. IsStartedAgain of entries (server_of room ds)) (sym (written_back furnished.1.len desks (drop (length desks) furnished.1.items) long))
    (started c.replayed_are_turns.ensures c.journal_leads_back.ensures c.goes_on_as_one_server.ensures of entries (server_of room desks)
    (as_new (λ k s. AreAnswered k entries s (server_of room desks)) (room_of furnished.0).configuration of (room_of furnished.0) (map state_of furnished.1.items)
    refl c.in-Ok.ensures.0 c.in-Ok.ensures.1 answered))
