use Rattle.std.proofs.Common.{sym, subst, List}
use Rattle.mds_desk.specs.Desk.{state_of}
use Rattle.server_state.specs.TurnItem.{TurnItem}
use Rattle.server_state.specs.TurnList.{AreTurnsOf}
use Rattle.server_state.proofs.ListedTurns.{none_yet}
use Rattle.server_state.proofs.locks.DeskLock.new.Goals as goal

pub invariant_of-new : goal.invariant_of-new
invariant_of-new g c =
    let own = g.K.HallName.configuration in
    let d = state_of c.args.desk in
    record {
      configured = c.requires.desk.configured;
      placed = c.requires.desk.placed;
      listed_there = c.in_ok-turns.ensures.place;
      listed = ∣ (λ _. subst (λ (items : List TurnItem). AreTurnsOf own c.args.place items d) (sym c.in_ok-turns.ensures.opened) (none_yet own c.args.place d c.requires.desk)) ∣₁;
    }
