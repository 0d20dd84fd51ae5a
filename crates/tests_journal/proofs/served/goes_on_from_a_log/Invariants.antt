use Rattle.mds_snapshot.specs.Opening.{book_of}
use Rattle.tests_journal.proofs.served.goes_on_from_a_log.Given as goal

-- the book of the blank that was just prepared
abbrev pub ghosts-go_on : goal.ghosts-go_on
ghosts-go_on g a = record { book = book_of a.blank }
