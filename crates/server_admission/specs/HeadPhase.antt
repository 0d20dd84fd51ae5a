-- By when a head has to come.
use Rattle.std.specs.Prelude.{ℕ, Bool, not, ◌&&◌, ◌||◌, ◌==◌, if◌then◌else◌}
use Rattle.server_admission.specs.declared.head_phase.HeadPhase.{HeadPhase}
use Rattle.server_admission.specs.declared.limits.TheConstants.{HEAD_SECONDS, IDLE_SECONDS}

abbrev pub seconds_of : HeadPhase → ℕ
seconds_of stage = if stage.is_head then HEAD_SECONDS else IDLE_SECONDS

-- the deadline of a head runs until it has come, that of an idle connection until a head begins
abbrev pub goes_on : HeadPhase → HeadPhase → Bool
goes_on stage next = (stage.pace == next.pace) && (stage.is_head || not next.is_head)
