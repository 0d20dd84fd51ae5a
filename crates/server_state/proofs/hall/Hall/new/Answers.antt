use Rattle.std.proofs.Common.{ap, ◌∙◌}
use Rattle.mds_desk.specs.Desk.{new_desks}
use Rattle.server_state.proofs.Placing.{new_are_its}
use Rattle.server_state.proofs.hall.Hall.new.Goals as goal

pub of-requires-clause-desks : goal.of-requires-clause-desks
of-requires-clause-desks g c =
    new_are_its g.K.HallName.configuration _ (c.in_ok-room.ensures.1 ∙ ap new_desks c.requires.configured)
