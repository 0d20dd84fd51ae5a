use Rattle.std.proofs.Common.{◌≡◌, map, drop}
use Rattle.journal_folder.specs.Compactions.{compaction_of, source_of}
use Rattle.journal_folder.proofs.compactions.source_of.Given as goal

-- none so far had a later entry
abbrev pub invariant-loop-compaction : goal.invariant-loop-compaction
invariant-loop-compaction l =
    source_of (map compaction_of (drop l.compaction-index l.compactions)) l.at ≡ source_of (map compaction_of l.compactions) l.at
