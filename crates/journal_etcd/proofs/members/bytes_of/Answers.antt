use Rattle.std.proofs.Common.{ap}
use Rattle.journal_etcd.specs.Reading.{bytes_of, decoded}
use Rattle.journal_etcd.proofs.members.bytes_of.Goals as goal

pub returns-in-Ok : goal.returns-in-Ok
unfolding bytes_of
returns-in-Ok c = ap decoded c.in-Ok.ensures.ok
