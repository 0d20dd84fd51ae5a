use Rattle.mds_desk.specs.Desk.{state_of}
use Rattle.server_state.proofs.turn.query_desk.Goals as goal

pub returns-clause-looks : goal.returns-clause-looks
returns-clause-looks g c = record { told = state_of c.learn_note.new.desk; learns = c.learn_note.ensures; learnt = c.run_query-told.ensures.learnt }
