use Rattle.server_state.proofs.locks.HallDesk.answer.Goals as goal

pub returns-clause-turn : goal.returns-clause-turn
returns-clause-turn g c = rw c.request-request.ensures at c.answer_request.ensures.turn

pub returns-clause-replies : goal.returns-clause-replies
returns-clause-replies g c = rw c.request-request.ensures at c.answer_request.ensures.replies

pub returns-clause-listed : goal.returns-clause-listed
returns-clause-listed g c = rw c.request-request.ensures at c.answer_request.ensures.listed
