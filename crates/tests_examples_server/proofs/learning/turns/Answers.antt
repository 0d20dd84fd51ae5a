use Rattle.std.proofs.Common.{◌≡◌, Bool, true, false, List, ◌∷◌, ◌++◌, refl, sym, ap}
use Rattle.std.proofs.lemmas.Bool.{false≢true}
use Rattle.mds_catalog.specs.Publication.{Publication}
use Rattle.tests_examples_core.specs.Publications.{then_withdrawn}
use Rattle.tests_examples_core.specs.Requests.{alfa}
use Rattle.tests_examples_server.specs.Turns.{first_front}
use Rattle.tests_examples_server.proofs.AtHall.{takes_report, takes_question}
use Rattle.tests_examples_server.proofs.learning.turns.Goals as goal

pub returns-clause-report : goal.returns-clause-report
returns-clause-report c = takes_report

pub returns-clause-question : goal.returns-clause-question
returns-clause-question c = takes_question

-- whether a list has at least two publications
abbrev has_two : List Publication → Bool
has_two (p ∷ q ∷ more) = true
has_two other = false

not_longer : (more : List Publication) → ¬ (then_withdrawn ++ more ≡ first_front)
not_longer more same = false≢true (sym (ap has_two same))

pub returns-clause-forgotten : goal.returns-clause-forgotten
returns-clause-forgotten c = λ t. let begins = (t.turn alfa refl).begins in not_longer begins.0 begins.1
