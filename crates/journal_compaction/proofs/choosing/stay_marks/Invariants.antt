use Rattle.std.proofs.Common.{◌≡◌, take, drop, reverse}
use Rattle.std.specs.BTreeMap.{get}
use Rattle.journal_compaction.specs.declared.kind.Device.{Device}
use Rattle.journal_compaction.specs.Staying.{staying}
use Rattle.journal_compaction.specs.Passes.{device_cmp, ahead_of}
use Rattle.journal_compaction.proofs.choosing.stay_marks.Given as goal

-- what was found of those after this one
abbrev pub invariant-loop-place : goal.invariant-loop-place
invariant-loop-place l =
    record {
      found : reverse l.marks.items ≡ staying (reverse (take l.place l.kinds)) (drop l.place l.kinds);
      behind : (q : Device) → get device_cmp l.behind q ≡ ahead_of q (drop l.place l.kinds);
    }
