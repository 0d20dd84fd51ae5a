use Rattle.journal_samples.proofs.Answers.{answers}
use Rattle.journal_samples.proofs.laws.samples_are_answers.Goals as goal

pub returns : goal.returns
returns c = answers
