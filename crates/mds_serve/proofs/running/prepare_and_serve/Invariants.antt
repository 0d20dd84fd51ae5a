use Rattle.mds_request.specs.Configuration.{configuration}
use Rattle.mds_snapshot.specs.Opening.{book_of}
use Rattle.server_state.specs.TurnLists.{books_of, room_book_of}
use Rattle.mds_serve.proofs.running.prepare_and_serve.Given as goal

-- the book of what was just prepared
abbrev pub ghosts-open-K-OpeningName : goal.ghosts-open-K-OpeningName
ghosts-open-K-OpeningName g a = record { book = book_of a.blank }

-- the books of the lists that were just begun, and the configuration that was just read
abbrev pub ghosts-open-K-HallName : goal.ghosts-open-K-HallName
ghosts-open-K-HallName g a = record { configuration = configuration a.config; turns = books_of a.lists; room_turns = room_book_of a.lists }
