-- What desks hold.
use Rattle.std.specs.Prelude.{List, []}
use Rattle.std.specs.FinMap.{empty}
use Rattle.mds_catalog.specs.Publication.{Publication}
use Rattle.mds_fleet.specs.Books.{Rows}
use Rattle.mds_desk.specs.Desk.{DeskState}
use Rattle.tests_examples_core.specs.Requests.{configuration}

-- the first operator's desk, which knows this list and has these rows
abbrev pub desk : List Publication → Rows → DeskState
desk known rows = record { configuration = configuration; place = 0; known = known; rows = rows }

-- the second operator's desk, new
abbrev pub second_desk : DeskState
second_desk = record { configuration = configuration; place = 1; known = []; rows = empty }
