use Rattle.server_state.proofs.turn.desk_turn.Goals as goal

pub returns : goal.returns
returns g c =
    let takes = c.take_turn-reply.ensures.turn in
    record {
      told = takes.told;
      reply = c.take_turn-reply.result;
      learns = takes.learns;
      turn = rw c.request-request.ensures at takes.turn;
      says = c.response.ensures;
    }
