-- The entries of a compacted journal.
use Rattle.std.specs.Prelude.{List, [], map}
use Rattle.mds_request.specs.Configuration.{Configuration}
use Rattle.journal_entry.specs.Entries.{Entry}
use Rattle.journal_compaction.specs.Kinds.{kind_of}
use Rattle.journal_compaction.specs.Staying.{staying, picked}

-- the entries that stay, in their order
abbrev pub thinned : Configuration → List Entry → List Entry
thinned configuration entries = picked (staying [] (map (kind_of configuration) entries)) entries
