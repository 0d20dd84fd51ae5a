use Rattle.std.proofs.Common.{◌≡◌, map, length}
use Rattle.mds_request.specs.Configuration.{operator, ids, repeats}
use Rattle.mds_request.proofs.lookup.ids_repeat.Given as goal

abbrev pub invariant-loop-first : goal.invariant-loop-first
invariant-loop-first l = repeats (ids (map operator l.rest)) ≡ repeats (ids (map operator l.fn.operators))

abbrev pub decreases-loop-first : goal.decreases-loop-first
decreases-loop-first l = length l.rest
