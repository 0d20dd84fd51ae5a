use Rattle.mds_fleet.proofs.Words.{words_decide}
use Rattle.mds_fleet.proofs.book.are_tokens.Goals as goal

pub returns : goal.returns
returns c = rw c.eq.ensures (words_decide _ _)
