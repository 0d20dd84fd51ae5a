use Rattle.mds_verdict.proofs.Measures.{length-verdicts, verdicts_at_most, few_devices}
use Rattle.mds_verdict.proofs.laws.verdicts_are_bounded.Goals as goal

pub returns-clause-each : goal.returns-clause-each
returns-clause-each c = λ policy polygons rows local t. length-verdicts policy polygons rows rows local t

pub returns-clause-measures : goal.returns-clause-measures
returns-clause-measures c = λ policy polygons rows local t. verdicts_at_most policy polygons rows rows local t

pub returns-clause-devices : goal.returns-clause-devices
returns-clause-devices c = few_devices
