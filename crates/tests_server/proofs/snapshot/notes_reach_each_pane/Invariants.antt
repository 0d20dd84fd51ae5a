use Rattle.mds_snapshot.specs.Opening.{book_of}
use Rattle.tests_server.proofs.snapshot.notes_reach_each_pane.Given as goal

-- the book of the blank that was just prepared
abbrev pub ghosts-open_two_panes : goal.ghosts-open_two_panes
ghosts-open_two_panes g a = record { book = book_of a.blank }
