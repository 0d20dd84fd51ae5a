use Rattle.std.proofs.Common.{sym}
use Rattle.journal_etcd.specs.Reading.{range_in}
use Rattle.journal_etcd.proofs.answers.range_in.Goals as goal

pub returns : goal.returns
unfolding range_in
returns c = rw (c.in_ok-responses.ensures, sym c.last_part.ensures, c.in_ok-response.ensures) c.member-2.ensures
