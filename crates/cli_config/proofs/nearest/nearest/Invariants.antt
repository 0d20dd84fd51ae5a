use Rattle.std.proofs.Common.{◌≡◌, None, drop}
use Rattle.cli_config.specs.Nearest.{nearest_from}
use Rattle.cli_config.proofs.nearest.nearest.Given as goal

-- the nearest so far, and then those that are left
abbrev pub invariant-loop-known : goal.invariant-loop-known
invariant-loop-known l = nearest_from l.fn.name l.best (drop l.known-index l.fn.members) ≡ nearest_from l.fn.name None l.fn.members
