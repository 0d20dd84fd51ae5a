use Rattle.std.proofs.Common.{refl}
use Rattle.tests_examples_core.specs.Computed.{documents}
use Rattle.tests_examples_core.proofs.DraftCounts.{the_square, the_cap, square_out, cap_out}
use Rattle.tests_examples_core.proofs.Session.{square_put, cap_put, cap_again}
use Rattle.tests_examples_core.specs.Geographies.{square_text}
use Rattle.tests_examples_core.specs.Machine.{square_path, cap_path}
use Rattle.tests_examples_core.specs.Policies.{cap_text}
use Rattle.tests_examples_core.proofs.machine.publication.Goals as goal

pub returns-clause-geography : goal.returns-clause-geography
unfolding documents
returns-clause-geography c = square_put square_path square_text refl refl

pub returns-clause-policy : goal.returns-clause-policy
unfolding documents
returns-clause-policy c = cap_put cap_path cap_text refl refl

pub returns-clause-again : goal.returns-clause-again
unfolding documents
returns-clause-again c = cap_again cap_path cap_text refl refl

pub returns-clause-published : goal.returns-clause-published
unfolding documents
returns-clause-published c = rw (the_square, the_cap, square_out, cap_out) refl
