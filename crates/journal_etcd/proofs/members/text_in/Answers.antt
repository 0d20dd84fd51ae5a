use Rattle.std.proofs.Common.{ℕ, List, sym, ap}
use Rattle.journal_etcd.specs.Reading.{known, text_in}
use Rattle.journal_etcd.proofs.members.text_in.Goals as goal

pub returns-in-Some : goal.returns-in-Some
unfolding text_in
returns-in-Some c = ap (known {A = List ℕ}) (sym c.in-Some.ensures)

pub returns-in-None : goal.returns-in-None
unfolding text_in
returns-in-None c = ap (known {A = List ℕ}) (sym c.in-None.ensures)
