-- The name of an opening.
use Rattle.logbook.specs.Pages.{Book}
use Rattle.mds_snapshot.specs.declared.blank.Blank.{Blank}

-- the book of the history that a `Blank` begins
abbrev pub book_of : Blank → Book
book_of b = b.start.seen.book
