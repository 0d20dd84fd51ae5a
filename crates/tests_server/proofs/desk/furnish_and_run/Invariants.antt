use Rattle.mds_snapshot.specs.Opening.{book_of}
use Rattle.tests_server.proofs.desk.furnish_and_run.Given as goal

-- the book of the blank that was just prepared
abbrev pub ghosts-run_and_finish : goal.ghosts-run_and_finish
ghosts-run_and_finish g a = record { book = book_of a.blank }
