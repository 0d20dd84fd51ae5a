use Rattle.mds_snapshot.specs.Opening.{book_of}
use Rattle.journal_compaction.proofs.prefix.compact_to_named.Given as goal

-- the book of the other blank
abbrev pub ghosts-compact_to : goal.ghosts-compact_to
ghosts-compact_to g a = record { book = book_of a.blanks.1 }
