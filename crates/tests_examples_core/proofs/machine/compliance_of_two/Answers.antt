use Rattle.std.proofs.Common.{codes, refl}
use Rattle.tests_examples_core.specs.Computed.{documents, places, zones}
use Rattle.tests_examples_core.proofs.Rows.{no_entries, one_entry, two_entries}
use Rattle.tests_examples_core.proofs.Session.{first_reported, second_reported}
use Rattle.tests_examples_core.specs.Vehicles.{in_the_square}
use Rattle.tests_examples_core.proofs.machine.compliance_of_two.Goals as goal

pub returns-clause-none : goal.returns-clause-none
unfolding documents places zones
returns-clause-none c = rw no_entries refl

pub returns-clause-first : goal.returns-clause-first
unfolding documents
returns-clause-first c = first_reported (codes "/fleet/events") (in_the_square (codes "401")) refl refl

pub returns-clause-kept : goal.returns-clause-kept
unfolding documents places zones
returns-clause-kept c = rw one_entry refl

pub returns-clause-second : goal.returns-clause-second
unfolding documents
returns-clause-second c = second_reported (codes "/fleet/events") (in_the_square (codes "402")) refl refl

pub returns-clause-violated : goal.returns-clause-violated
unfolding documents places zones
returns-clause-violated c = rw two_entries refl

pub returns-clause-of_the_other : goal.returns-clause-of_the_other
unfolding documents places zones
returns-clause-of_the_other c = rw no_entries refl
