use Rattle.std.proofs.Common.{ap, subst, ◌∙◌}
use Rattle.journal_etcd.specs.Reading.{Gives, head_of}
use Rattle.journal_etcd.proofs.Spelled.{head_again}
use Rattle.journal_etcd.proofs.reading.read_head.Goals as goal

pub returns-clause-only : goal.returns-clause-only
returns-clause-only c = λ head fits e. subst (λ f. Gives (λ h. h) c.head_of.result f) (ap head_of e ∙ head_again head fits) c.head_of.ensures.exact
