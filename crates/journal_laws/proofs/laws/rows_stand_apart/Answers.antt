use Rattle.mds_request.specs.Call.{call_of}
use Rattle.journal_laws.proofs.Kept.{step_apart}
use Rattle.journal_laws.proofs.laws.rows_stand_apart.Goals as goal

pub returns : goal.returns
returns c = λ configuration operator publications others rows request. step_apart configuration operator publications others rows request (call_of configuration request)
