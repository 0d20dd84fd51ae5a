use Rattle.std.proofs.Common.{ap}
use Rattle.mds_match.specs.Zone.{local_at}
use Rattle.tests_examples_core.proofs.Years.{january, july}
use Rattle.tests_examples_core.proofs.time.southern_summer.Goals as goal

pub returns-clause-january : goal.returns-clause-january
returns-clause-january c = ap (λ offset. local_at offset 1672531200000) january

pub returns-clause-july : goal.returns-clause-july
returns-clause-july c = ap (λ offset. local_at offset 1688169600000) july
