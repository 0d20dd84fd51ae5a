use Rattle.journal_samples.proofs.Replies.{served}
use Rattle.journal_samples.proofs.laws.replies_as_served.Goals as goal

pub returns : goal.returns
returns c = served
