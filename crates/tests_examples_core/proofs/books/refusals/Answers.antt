use Rattle.std.proofs.Common.{refl}
use Rattle.tests_examples_core.proofs.Rows.{one_first, two_third, two_count}
use Rattle.tests_examples_core.proofs.books.refusals.Goals as goal

pub returns-clause-stale : goal.returns-clause-stale
returns-clause-stale c = rw one_first refl

pub returns-clause-full : goal.returns-clause-full
returns-clause-full c = rw (two_third, two_count) refl
