use Rattle.std.specs.Prelude.{map}
use Rattle.mds_request.specs.Configuration.{configuration}
use Rattle.mds_snapshot.specs.Opening.{book_of}
use Rattle.server_durable.specs.Owners.{client_in}
use Rattle.server_state.specs.TurnLists.{books_of, room_book_of}
use Rattle.ruffletuff.proofs.opening.serve_log.Given as goal

-- the book of what was just prepared
abbrev pub ghosts-serve_opening-K-OpeningName : goal.ghosts-serve_opening-K-OpeningName
ghosts-serve_opening-K-OpeningName g a = record { book = book_of a.opened.0 }

-- the books of the lists that were just begun, and the configuration of the service
abbrev pub ghosts-serve_opening-K-HallName : goal.ghosts-serve_opening-K-HallName
ghosts-serve_opening-K-HallName g a = record { configuration = configuration a.config; turns = books_of a.opened.1; room_turns = room_book_of a.opened.1 }

-- the book of the history that was just begun, the clients that its payloads name, and the payloads that were just read
abbrev pub ghosts-serve_opening-N-LogName : goal.ghosts-serve_opening-N-LogName
ghosts-serve_opening-N-LogName g a =
    record { book = a.read.history.seen.book; client_of = client_in (configuration a.config); first = map (λ t. t.items) a.read.texts.items }
