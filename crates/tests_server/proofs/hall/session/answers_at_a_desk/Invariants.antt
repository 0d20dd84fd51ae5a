use Rattle.mds_snapshot.specs.Opening.{book_of}
use Rattle.tests_server.proofs.hall.session.answers_at_a_desk.Given as goal

-- the book of the blank that was just prepared
abbrev pub ghosts-at_desk : goal.ghosts-at_desk
ghosts-at_desk g a = record { book = book_of a.blank }
