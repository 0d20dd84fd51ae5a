use Rattle.std.proofs.Common.{refl}
use Rattle.tests_examples_core.specs.Computed.{documents}
use Rattle.tests_examples_core.proofs.DraftCounts.{the_cap}
use Rattle.tests_examples_core.proofs.Rows.{one_first, one_entry, first_out}
use Rattle.tests_examples_core.proofs.machine.served_documents.Goals as goal

pub returns-clause-draft : goal.returns-clause-draft
unfolding documents
returns-clause-draft c = rw the_cap refl

pub returns-clause-vehicles : goal.returns-clause-vehicles
unfolding documents
returns-clause-vehicles c = rw one_entry refl

pub returns-clause-removed : goal.returns-clause-removed
unfolding documents
returns-clause-removed c = rw (one_first, first_out) refl
