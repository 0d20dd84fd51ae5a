use Rattle.std.proofs.Common.{sym, ap}
use Rattle.json.specs.Json.{Json}
use Rattle.journal_etcd.specs.Reading.{known, item_at}
use Rattle.journal_etcd.proofs.members.item_at.Goals as goal

pub returns-in-Some : goal.returns-in-Some
unfolding item_at
returns-in-Some c = ap (known {A = Json}) (sym c.in-Some.ensures)

pub returns-in-None : goal.returns-in-None
unfolding item_at
returns-in-None c = ap (known {A = Json}) (sym c.in-None.ensures)
