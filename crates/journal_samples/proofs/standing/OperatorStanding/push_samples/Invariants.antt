use Rattle.std.proofs.Common.{◌≡◌, ◌++◌, take}
use Rattle.std.specs.List.{flat_map}
use Rattle.journal_samples.specs.Held.{standing_of}
use Rattle.journal_samples.proofs.Sampled.{lent_told}
use Rattle.journal_samples.proofs.standing.OperatorStanding.push_samples.Given as goal

-- the samples so far are those of the policies so far
abbrev pub invariant-loop-policy : goal.invariant-loop-policy
invariant-loop-policy l = l.found.items ≡ l.fn.found.items ++ flat_map (lent_told (standing_of l.self) l.at) (take l.policy-index l.policy-items)
