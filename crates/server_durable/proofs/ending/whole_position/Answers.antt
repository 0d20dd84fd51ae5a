use mathlib.Core.List.{IsPrefix}
use Rattle.server_state.specs.RoomTurns.{AreRoomTurnsOf}
use Rattle.std.proofs.Common.{List, subst}
use Rattle.std.specs.Mem.{manually_drop_value}
use Rattle.journal_commit.specs.Clients.{of_client}
use Rattle.mds_desk.specs.Room.{room_of}
use Rattle.mds_request.specs.declared.config.Actor.TheVariants.{Author}
use Rattle.server_admission.specs.Actor.{index_of}
use Rattle.server_state.specs.TurnItem.{TurnItem}
use Rattle.server_durable.specs.Logged.{AreLogged}
use Rattle.server_durable.proofs.EndedHalls.{ends_logged}
use Rattle.server_durable.proofs.ending.whole_position.Goals as goal

pub returns-then-pop_all_whole : goal.returns-then-pop_all_whole
returns-then-pop_all_whole g c =
    let end = c.args.end.now in
    ends_logged g.K.HallName.configuration c.in_ok-all.all g.N.LogName.client_of end.opening.front.seen.log end.room.turns.front.seen.log _
    (room_of (manually_drop_value end.room.room)) c.requires.clients
    (subst (IsPrefix end.opening.front.seen.log) c.in_ok-turns.ensures.whole c.in_ok-turns.ensures.begins)
    (subst (λ (items : List TurnItem). ∥ AreRoomTurnsOf g.K.HallName.configuration items (room_of (manually_drop_value end.room.room)) ∥₁) c.in_ok-turns.ensures.whole c.in_ok-turns.ensures.turns)
    (subst (λ room. ∥ AreLogged g.K.HallName.configuration room.turns.front.seen.log
    (of_client g.N.LogName.client_of (index_of Author) c.in_ok-all.all) ∥₁) c.room.ensures c.in_ok-all.ensures)
    (c.pop_all_whole.ensures c.if-pop_all_whole.true) (c.has_none_of_nobody.ensures c.if-not-has_none_of_nobody.false)
