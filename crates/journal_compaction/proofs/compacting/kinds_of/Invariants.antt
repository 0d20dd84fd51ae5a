use Rattle.std.proofs.Common.{◌≡◌, map, take}
use Rattle.mds_request.specs.Configuration.{configuration}
use Rattle.journal_entry.specs.Entries.{entry_of}
use Rattle.journal_compaction.specs.Kinds.{kind_of}
use Rattle.journal_compaction.proofs.compacting.kinds_of.Given as goal

-- the kinds of the entries so far
abbrev pub invariant-loop-entry : goal.invariant-loop-entry
invariant-loop-entry l = l.kinds.items ≡ map (kind_of (configuration l.config)) (map entry_of (take l.entry-index l.entries))
