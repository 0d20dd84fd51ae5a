use Rattle.std.proofs.Common.{ap, subst, ◌∙◌}
use Rattle.journal_etcd.specs.Reading.{Gives, owner_of}
use Rattle.journal_etcd.proofs.Spelled.{owner_again}
use Rattle.journal_etcd.proofs.reading.read_owner.Goals as goal

pub returns-clause-only : goal.returns-clause-only
returns-clause-only c = λ owner fits e. subst (λ f. Gives (λ o. o) c.owner_of.result f) (ap owner_of e ∙ owner_again owner fits) c.owner_of.ensures.exact
