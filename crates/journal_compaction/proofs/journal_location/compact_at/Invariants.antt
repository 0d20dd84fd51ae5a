use Rattle.mds_snapshot.specs.Opening.{book_of}
use Rattle.journal_compaction.proofs.journal_location.compact_at.Given as goal

-- the book of what was just prepared
abbrev pub ghosts-compact_named : goal.ghosts-compact_named
ghosts-compact_named g a = record { book = book_of a.one }
