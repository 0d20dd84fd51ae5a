use Rattle.journal_laws.specs.Persisted.{kept}
use Rattle.journal_laws.proofs.Kept.{kept_runs, same_runs, all_kept}
use Rattle.journal_laws.proofs.laws.replay_leads_there.Goals as goal

pub returns : goal.returns
returns c = λ state after recovered history again r s is.
    same_runs c.is_determined.ensures state after recovered (kept state.configuration history) again
    (kept_runs c.refusal_keeps_state.ensures state after history r) s (all_kept state.configuration history) is.0 is.1
