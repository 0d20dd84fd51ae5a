use Rattle.mds_verdict.proofs.Measures.{outcomes-IsPermutation}
use Rattle.mds_verdict.proofs.laws.any_order.Goals as goal

pub returns : goal.returns
returns c = outcomes-IsPermutation
