use mathlib.Core.List.{map-map}
use Rattle.std.proofs.Common.{ℕ, List, map, sym, subst, ◌∙◌}
use Rattle.mds_desk.specs.Desk.{state_of}
use Rattle.mds_request.specs.Configuration.{Configuration, configuration}
use Rattle.server_journal.specs.Starting.{IsStartedFrom}
use Rattle.server_state.specs.Turn.{AreDesksOf}
use Rattle.server_state.specs.TurnList.{opened_as}
use Rattle.journal_recovery.specs.Recovery.{server_of}
use Rattle.ruffletuff.proofs.Placed.{desks_of_server}
use Rattle.ruffletuff.proofs.opening.serve_opening.Goals as goal

pub of-requires-clause-desks : goal.of-requires-clause-desks
of-requires-clause-desks g c =
    let from = c.in_ok-room.ensures in
    let server = server_of c.in_ok-room.room c.in_ok-room.desks.items in
    subst (λ k. AreDesksOf k server.desks) c.requires.configured
    (desks_of_server (configuration c.args.config) server from.started.placed)

pub persist_and_serve-requires-clause-clients : goal.persist_and_serve-requires-clause-clients
persist_and_serve-requires-clause-clients g c κs within = c.requires.clients

pub persist_and_serve-requires-clause-listed : goal.persist_and_serve-requires-clause-listed
persist_and_serve-requires-clause-listed g c κs within = c.requires.listed

pub persist_and_serve-requires-clause-resumed : goal.persist_and_serve-requires-clause-resumed
persist_and_serve-requires-clause-resumed g c κs within =
    let server = server_of c.in_ok-room.room c.in_ok-room.desks.items in
    let dropped = c.args.stage.dropped.now in
    let texts = map (λ t. t.items) c.args.read.texts.items in
    let started = subst (λ (own : Configuration). IsStartedFrom own dropped texts server) c.requires.configured c.in_ok-room.ensures in
    let resumed = subst (λ (first : List (List ℕ)). IsStartedFrom g.K.HallName.configuration dropped first server) c.requires.first started in (
      server,
      resumed,
      c.in_ok-hall.ensures.room_opened,
      c.in_ok-hall.ensures.opened ∙ sym (map-map opened_as state_of c.in_ok-room.desks.items),
    )
