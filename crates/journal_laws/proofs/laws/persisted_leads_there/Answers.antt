use Rattle.journal_laws.proofs.Kept.{kept_runs}
use Rattle.journal_laws.proofs.laws.persisted_leads_there.Goals as goal

pub returns : goal.returns
returns c = kept_runs c.refusal_keeps_state.ensures
