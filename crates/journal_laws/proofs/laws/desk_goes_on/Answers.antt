use Rattle.std.proofs.Common.{subst}
use Rattle.mds_fleet.specs.Books.{Rows}
use Rattle.mds_machine.specs.Desks.{AreTurns}
use Rattle.journal_laws.proofs.Servers.{recovered, joined}
use Rattle.journal_laws.proofs.laws.desk_goes_on.Goals as goal

pub returns : goal.returns
returns c = λ configuration place operator known other known_again rows left back after told again later are are_again is front on.
    let r = recovered configuration place operator told known rows left are known_again back again are_again is.0 is.1 in
    joined configuration place operator known other rows left after told later are front
    (subst (λ (v : Rows). AreTurns configuration place operator other v later after) r.1 on)
