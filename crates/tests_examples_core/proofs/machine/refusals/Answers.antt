use Rattle.std.proofs.Common.{codes, refl}
use Rattle.tests_examples_core.specs.Computed.{documents}
use Rattle.tests_examples_core.specs.Vehicles.{in_the_square}
use Rattle.tests_examples_core.proofs.DraftCounts.{the_cap}
use Rattle.tests_examples_core.proofs.Rows.{none_first}
use Rattle.tests_examples_core.proofs.Session.{third_reported}
use Rattle.tests_examples_core.proofs.machine.refusals.Goals as goal

pub returns-clause-no_geography : goal.returns-clause-no_geography
unfolding documents
returns-clause-no_geography c = rw the_cap refl

pub returns-clause-full : goal.returns-clause-full
unfolding documents
returns-clause-full c = third_reported (codes "/fleet/events") (in_the_square (codes "403")) refl refl

pub returns-clause-no_vehicle : goal.returns-clause-no_vehicle
unfolding documents
returns-clause-no_vehicle c = rw none_first refl
