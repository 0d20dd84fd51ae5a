use Rattle.std.proofs.Common.{subst}
use Rattle.journal_etcd.specs.Reading.{Gives}
use Rattle.journal_etcd.proofs.Said.{transaction_of-said}
use Rattle.journal_etcd.proofs.answers.read_transaction.Goals as goal

pub returns-clause-only : goal.returns-clause-only
returns-clause-only c = λ answer read utf8 is says.
    subst (λ f. Gives (λ r. r) c.transaction_of.result f) (transaction_of-said c.args.keys.now.prefix.now c.args.transaction.now c.args.body.now answer read utf8 is says) c.transaction_of.ensures
