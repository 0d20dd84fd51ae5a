use Rattle.std.proofs.Common.{arith}
use Rattle.mds_text.proofs.Rounding.{size_of-nearest}
use Rattle.mds_text.proofs.laws.within_half_a_unit.Goals as goal

pub returns-clause-near : goal.returns-clause-near
returns-clause-near c = λ n. let near = size_of-nearest n in (near.0, omega (arith, near.1))

pub returns-clause-away : goal.returns-clause-away
returns-clause-away c = λ n. (size_of-nearest n).1
