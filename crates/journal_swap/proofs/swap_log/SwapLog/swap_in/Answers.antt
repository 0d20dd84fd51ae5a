use Rattle.std.proofs.Common.{refl}
use Rattle.journal_swap.proofs.Rolled.{rolled_exchanged}
use Rattle.journal_swap.proofs.swap_log.SwapLog.swap_in.Goals as goal

pub returns-clause-rolled : goal.returns-clause-rolled
returns-clause-rolled g c = λ list r. rolled_exchanged g.P.Equivalence.same _ _ _ _ _ _ _ _ _ _ _ list r c.in-Ok.ensures.kept c.in-Ok.ensures.caught refl c.forget-2.ensures
