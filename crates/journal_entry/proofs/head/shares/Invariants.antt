use Rattle.std.proofs.Common.{◌≡◌, map, take}
use Rattle.mds_request.specs.Configuration.{operator}
use Rattle.journal_entry.specs.Heads.{share_of, limit_of}
use Rattle.journal_entry.proofs.head.shares.Given as goal

abbrev pub invariant-loop-operator : goal.invariant-loop-operator
invariant-loop-operator l = map share_of l.shares.items ≡ map limit_of (map operator (take l.operator-index l.operators))
