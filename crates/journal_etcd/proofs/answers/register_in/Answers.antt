use Rattle.std.proofs.Common.{sym, ap, subst}
use Rattle.journal_etcd.specs.Reading.{Gives, pairs_in, register_in}
use Rattle.journal_etcd.proofs.answers.register_in.Goals as goal

pub returns-in-Some : goal.returns-in-Some
unfolding register_in
returns-in-Some c =
    subst (λ o. Gives (λ r. r) c.both_in.result (pairs_in c.args.keys.now.prefix.now o)) c.in-Some.ensures c.both_in.ensures

pub returns-in-None : goal.returns-in-None
unfolding register_in
returns-in-None c = ap (pairs_in c.args.keys.now.prefix.now) (sym c.in-None.ensures)
