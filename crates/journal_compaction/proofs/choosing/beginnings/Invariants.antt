use Rattle.std.proofs.Common.{◌≡◌, [], ◌++◌, take, drop, reverse}
use Rattle.std.specs.BTreeMap.{get}
use Rattle.journal_compaction.specs.declared.kind.Device.{Device}
use Rattle.journal_compaction.specs.Staying.{state_before}
use Rattle.journal_compaction.specs.Passes.{device_cmp, beginnings}
use Rattle.journal_compaction.proofs.choosing.beginnings.Given as goal

-- what was found so far, and what is to be, are all
abbrev pub invariant-loop-kind : goal.invariant-loop-kind
invariant-loop-kind l =
    record {
      found : l.found.items ++ beginnings (reverse (take l.kind-index l.kinds)) (drop l.kind-index l.kinds) ≡ beginnings [] l.kinds;
      known : (q : Device) → get device_cmp l.states q ≡ state_before q (reverse (take l.kind-index l.kinds));
    }
