use Rattle.cli_calendar.proofs.Spaced.{one_more}
use Rattle.cli_calendar.proofs.times.moments_between.Goals as goal

pub loop-number-preserved : goal.loop-number-preserved
loop-number-preserved c = one_more _ _ _ _ _ _ c.loop-number.invariant c.in-Some.ensures c.in_ok-push-in-Some.ensures.items
