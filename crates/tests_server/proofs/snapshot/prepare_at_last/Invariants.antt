use Rattle.mds_snapshot.specs.Opening.{book_of}
use Rattle.tests_server.proofs.snapshot.prepare_at_last.Given as goal

-- the book of the blank that was just prepared
abbrev pub ghosts-open_or_out_of_memory : goal.ghosts-open_or_out_of_memory
ghosts-open_or_out_of_memory g a = record { book = book_of a.blank }
