use Rattle.journal_samples.proofs.Replies.{others}
use Rattle.journal_samples.proofs.laws.others_count_for_nothing.Goals as goal

pub returns : goal.returns
returns c = others
