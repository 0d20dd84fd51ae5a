use Rattle.std.proofs.Common.{◌≡◌, drop}
use Rattle.journal_samples.specs.Samples.{ascends}
use Rattle.journal_samples.proofs.replay.ascends.Given as goal

-- all ascend, if those that are left do
abbrev pub invariant-loop-at : goal.invariant-loop-at
invariant-loop-at l = ascends l.last (drop l.at-index l.moments) ≡ ascends 0 l.moments
