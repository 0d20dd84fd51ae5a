use Rattle.mds_snapshot.specs.Opening.{book_of}
use Rattle.journal_compaction.proofs.journal_location.compact_named.Given as goal

-- the book of the other blank
abbrev pub ghosts-compact_both : goal.ghosts-compact_both
ghosts-compact_both g a = record { book = book_of a.other }
