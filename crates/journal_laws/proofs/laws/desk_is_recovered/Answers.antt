use Rattle.journal_laws.proofs.Servers.{recovered}
use Rattle.journal_laws.proofs.laws.desk_is_recovered.Goals as goal

pub returns : goal.returns
returns c = λ configuration place operator known other rows after back turns again are are_again is.
    recovered configuration place operator turns known rows after are other back again are_again is.0 is.1
