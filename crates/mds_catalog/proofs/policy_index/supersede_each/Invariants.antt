use Rattle.std.proofs.Common.{◌≡◌, ◌++◌, map, take, drop}
use Rattle.mds_catalog.specs.Index.{after_superseding}
use Rattle.mds_catalog.proofs.policy_index.supersede_each.Given as goal

-- the entries before this one are marked, the others unchanged
abbrev pub invariant-loop-entry : goal.invariant-loop-entry
invariant-loop-entry l =
    l.entries ≡ map (after_superseding l.moment l.ids) (take l.entry-index l.initial.entries) ++ drop l.entry-index l.initial.entries
