use Rattle.mds_request.specs.Configuration.{configuration}
use Rattle.mds_snapshot.specs.Opening.{book_of}
use Rattle.server_state.specs.TurnLists.{books_of, room_book_of}
use Rattle.tests_server.proofs.hall.run_hall_test.Given as goal

-- the book of the blank that was just prepared
abbrev pub ghosts-open_and_run-K-OpeningName : goal.ghosts-open_and_run-K-OpeningName
ghosts-open_and_run-K-OpeningName g a = record { book = book_of a.blank }

-- the books of the lists that were just begun, and the configuration that was just read
abbrev pub ghosts-open_and_run-K-HallName : goal.ghosts-open_and_run-K-HallName
ghosts-open_and_run-K-HallName g a = record { configuration = configuration a.config; turns = books_of a.lists; room_turns = room_book_of a.lists }
