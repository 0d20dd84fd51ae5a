use Rattle.std.proofs.Common.{subst}
use Rattle.journal_etcd.specs.Reading.{Gives}
use Rattle.journal_etcd.proofs.Said.{look_of-said}
use Rattle.journal_etcd.proofs.answers.read_look.Goals as goal

pub returns-clause-only : goal.returns-clause-only
returns-clause-only c = λ answer look utf8 is says.
    subst (λ f. Gives (λ l. l) c.look_of.result f) (look_of-said c.args.keys.now.prefix.now c.args.body.now answer look utf8 is says) c.look_of.ensures
