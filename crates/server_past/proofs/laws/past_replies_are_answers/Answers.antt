use Rattle.server_past.proofs.Served.{are_answers}
use Rattle.server_past.proofs.laws.past_replies_are_answers.Goals as goal

pub returns : goal.returns
returns c = are_answers
