use Rattle.std.proofs.Common.{ap}
use Rattle.mds_match.specs.Zone.{local_at}
use Rattle.tests_examples_core.proofs.Years.{before_the_gap, after_the_gap, first_time, second_time}
use Rattle.tests_examples_core.proofs.time.daylight_saving.Goals as goal

pub returns-clause-before_the_gap : goal.returns-clause-before_the_gap
returns-clause-before_the_gap c = ap (λ offset. local_at offset 1678615199999) before_the_gap

pub returns-clause-after_the_gap : goal.returns-clause-after_the_gap
returns-clause-after_the_gap c = ap (λ offset. local_at offset 1678615200000) after_the_gap

pub returns-clause-first_time : goal.returns-clause-first_time
returns-clause-first_time c = ap (λ offset. local_at offset 1699174799999) first_time

pub returns-clause-second_time : goal.returns-clause-second_time
returns-clause-second_time c = ap (λ offset. local_at offset 1699174800000) second_time
