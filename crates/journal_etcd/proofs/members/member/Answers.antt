use Rattle.std.proofs.Common.{sym, ap}
use Rattle.json.specs.Json.{Json}
use Rattle.journal_etcd.specs.Reading.{known, member}
use Rattle.journal_etcd.proofs.members.member.Goals as goal

pub returns-in-Some : goal.returns-in-Some
unfolding member
returns-in-Some c = ap (known {A = Json}) (sym c.in-Some.ensures)

pub returns-in-None : goal.returns-in-None
unfolding member
returns-in-None c = ap (known {A = Json}) (sym c.in-None.ensures)
