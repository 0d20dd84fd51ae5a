use Rattle.mds_snapshot.specs.Opening.{book_of}
use Rattle.tests_server.proofs.desk.overlapping.prepare_and_run.Given as goal

-- the book of the blank that was just prepared
abbrev pub ghosts-run_overlap : goal.ghosts-run_overlap
ghosts-run_overlap g a = record { book = book_of a.blank }
