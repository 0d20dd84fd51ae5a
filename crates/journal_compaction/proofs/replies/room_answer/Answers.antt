use Rattle.std.proofs.Common.{refl}
use Rattle.journal_compaction.proofs.replies.room_answer.Goals as goal

pub returns : goal.returns
returns g c = λ desks. record { note = c.answer-answer.result.1; turn = c.answer-answer.ensures; desks = refl }
