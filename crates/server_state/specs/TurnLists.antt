-- The books of the lists of the desks' turns, in the configuration's order, and of the room's.
use Rattle.std.specs.Prelude.{◌≡◌, ℕ, List, Option, Some, None, map, option_map, slice_get, unwrap_or}
use Rattle.logbook.specs.Pages.{Book}
use Rattle.server_state.specs.declared.turn_list.TurnLists.{TurnLists}

abbrev no_book : Book
no_book = record { number = 0; log_name = 0; cells_name = 0 }

-- the book at this place
abbrev pub book_at : List (Option Book) → ℕ → Book
book_at books place = unwrap_or (unwrap_or (slice_get books place) None) no_book

-- the books of lists that have no name yet
abbrev pub books_of : TurnLists → ℕ → Book
books_of lists = book_at (map (option_map (λ list. list.front.seen.book)) lists.lists.items)

-- the book of the room's list, which has no name yet either
abbrev pub room_book_of : TurnLists → Book
room_book_of lists = lists.room.front.seen.book
