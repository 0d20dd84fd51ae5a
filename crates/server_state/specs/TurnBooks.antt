-- Books that are under their names.
use Rattle.std.specs.Prelude.{◌≡◌, ℕ, List, Option, Some, slice_get}
use Rattle.logbook.specs.Pages.{Book}

-- each book that is still there is the one of its place
abbrev pub AreNamed : (ℕ → Book) → List (Option Book) → Type 0
AreNamed turns books = (place : ℕ) (book : Book) → slice_get books place ≡ Some (Some book) → book ≡ turns place
