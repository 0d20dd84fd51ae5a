use Rattle.std.proofs.Common.{◌≡◌, drop}
use Rattle.cli_config.specs.Limits.{low_from}
use Rattle.cli_config.proofs.limits.low_of.Given as goal

-- a search from here on finds what the whole search finds
abbrev pub invariant-loop-place : goal.invariant-loop-place
invariant-loop-place l = low_from l.place l.fn.id (drop l.place l.fn.bounds) ≡ low_from 0 l.fn.id l.fn.bounds
