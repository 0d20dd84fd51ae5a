use Rattle.mds_desk.specs.Desk.{state_of}
use Rattle.server_state.proofs.Turns.{of_ok}
use Rattle.server_state.proofs.turn.take_run.Goals as goal

pub returns-clause-run : goal.returns-clause-run
returns-clause-run g c =
    of_ok c.run.result (λ replies run. record { told = state_of c.learn_note.new.desk; learns = c.learn_note.ensures; run = run }) c.run.ensures.run
