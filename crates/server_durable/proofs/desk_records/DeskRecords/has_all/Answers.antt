use Rattle.std.proofs.Common.{List, subst}
use Rattle.std.proofs.Math.Logic.{∥∥₁_map}
use Rattle.mds_desk.specs.Desk.{state_of}
use Rattle.server_state.specs.TurnItem.{TurnItem}
use Rattle.server_durable.specs.Logged.{OwnsTurns}
use Rattle.server_durable.proofs.desk_records.DeskRecords.has_all.Goals as goal

pub has_turns-requires : goal.has_turns-requires
has_turns-requires g c = ∥∥₁_map c.in-Some.ensures.turns (λ are. (state_of c.args.desk.now.desk, are))

pub returns-in-Some : goal.returns-in-Some
returns-in-Some g c =
    λ same.
    subst (λ (items : List TurnItem). ∥ OwnsTurns g.K.HallName.configuration g.N.LogName.client_of c.args.self.now.own items ∥₁) c.in-Some.ensures.whole.1
    (c.has_turns.ensures same)
