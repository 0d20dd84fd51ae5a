use Rattle.std.proofs.Common.{◌≡◌, ◌+◌, ◌*◌, map}
use Rattle.std.specs.List.{range_with_len}
use Rattle.cli_calendar.proofs.times.moments_between.Given as goal

-- the moments so far
abbrev pub invariant-loop-number : goal.invariant-loop-number
invariant-loop-number l = l.moments.items ≡ map (λ k. l.first + k * l.every) (range_with_len 0 l.number)
