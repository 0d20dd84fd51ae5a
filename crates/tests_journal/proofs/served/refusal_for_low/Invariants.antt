use Rattle.mds_snapshot.specs.Opening.{book_of}
use Rattle.tests_journal.proofs.served.refusal_for_low.Given as goal

-- the book of the blank that was just prepared
abbrev pub ghosts-refusal : goal.ghosts-refusal
ghosts-refusal g a = record { book = book_of a.blank }
