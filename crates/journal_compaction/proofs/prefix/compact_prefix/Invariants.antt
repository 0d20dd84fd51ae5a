use Rattle.mds_snapshot.specs.Opening.{book_of}
use Rattle.journal_compaction.proofs.prefix.compact_prefix.Given as goal

-- the book of what was just prepared
abbrev pub ghosts-compact_to_named : goal.ghosts-compact_to_named
ghosts-compact_to_named g a = record { book = book_of a.one }
