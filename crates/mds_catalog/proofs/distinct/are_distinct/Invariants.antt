use Rattle.std.proofs.Common.{◌≡◌, drop}
use Rattle.mds_catalog.specs.Publication.{are_distinct}
use Rattle.mds_catalog.proofs.distinct.are_distinct.Given as goal

-- the rest is distinct where the whole list is
abbrev pub invariant-loop-i : goal.invariant-loop-i
invariant-loop-i l = are_distinct (drop l.i l.ids) ≡ are_distinct l.ids
