use Rattle.std.proofs.Common.{subst}
use Rattle.mds_machine.specs.Step.{Run}
use Rattle.journal_laws.proofs.Kept.{run_on}
use Rattle.journal_laws.proofs.laws.is_one_history.Goals as goal

pub returns : goal.returns
returns c = λ state left recovered last told again later r s is t.
    run_on state left last told later r (subst (λ v. Run v later last) (c.replay_leads_there.ensures state left recovered told again r s is).1 t)
