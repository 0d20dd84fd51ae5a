use Rattle.std.proofs.Common.{rules, ◌≡◌, List, None, length, subst}
use Rattle.mds_desk.specs.Room.{room_of}
use Rattle.std.specs.Mem.{manually_drop_value}
use Rattle.server_state.specs.TurnItem.{TurnItem}
use Rattle.server_durable.specs.Logged.{OwnsTurns}
use Rattle.server_durable.proofs.RoomLogging.{owns_no_turn}
use Rattle.server_durable.proofs.room_turn.author_log.AuthorLog.records_of.Goals as goal

pub returns-then-len-eq1-clause-owns : goal.returns-then-len-eq1-clause-owns
returns-then-len-eq1-clause-owns g c =
    let own = c.args.self.records.own in
    let all = c.in_ok-all.all.front.seen.log in
    let none : c.args.self.turns ≡ None = search rules in
    let alone : length all ≡ 1 = search rules in
    let owns : ∥ OwnsTurns g.K.HallName.configuration g.N.LogName.client_of own all ∥₁ =
    owns_no_turn g.K.HallName.configuration g.N.LogName.client_of (λ turns. turns.front.seen.log) own c.args.self.turns all
    (room_of (manually_drop_value c.args.room.now.room)) none c.args.self.logged c.in_ok-all.ensures.turns alone in
    subst (λ (items : List TurnItem). ∥ OwnsTurns g.K.HallName.configuration g.N.LogName.client_of own items ∥₁) c.in_ok-all.ensures.whole.1 owns
