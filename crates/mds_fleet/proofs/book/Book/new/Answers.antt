use Rattle.std.proofs.Common.{map, ap}
use Rattle.std.specs.FinMap.{from_entries}
use Rattle.mds_fleet.proofs.Rows.{entry}
use Rattle.mds_fleet.proofs.book.Book.new.Goals as goal

-- no vehicles, no rows
pub returns-clause-rows : goal.returns-clause-rows
returns-clause-rows c = ap (λ es. from_entries (map entry es)) c.new.ensures.empty
