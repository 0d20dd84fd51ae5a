use Rattle.std.proofs.Common.{sym, subst}
use Rattle.std.specs.Prelude.{Option}
use Rattle.journal_remote.specs.declared.tenure.Tenure.{Tenure}
use Rattle.journal_remote.proofs.Claimed.{ShowsCurrent, held_current}
use Rattle.journal_remote.proofs.tenure.Tenure.of_claim.Goals as goal

pub returns-clause-current : goal.returns-clause-current
returns-clause-current c =
    subst (λ (held : Option Tenure). ShowsCurrent c.args.seen.now held) (sym c.held_by.ensures)
    (held_current c.args.claim.now.new_owner c.args.seen.now)
