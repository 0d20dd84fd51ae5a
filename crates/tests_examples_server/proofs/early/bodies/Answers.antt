use Rattle.std.proofs.Common.{◌≡◌, ℕ, replicate, true, false, nat_lt, Some, refl}
use Rattle.std.proofs.lemmas.List.{length-replicate}
use Rattle.mds_request.specs.declared.call.TheConstants.{MOST_BODY}
use Rattle.mds_request.specs.declared.code.Code.TheVariants as code
use Rattle.server_state.specs.Early.{early}
use Rattle.server_admission.specs.declared.arrival.Arrived.TheVariants.{Whole}
use Rattle.tests_examples_core.specs.Requests.{configuration}
use Rattle.tests_examples_server.specs.Heads.{by_nobody}
use Rattle.tests_examples_server.proofs.early.bodies.Goals as goal

-- by the size alone, so that no long body is computed
too_large : (n : ℕ) → nat_lt MOST_BODY n ≡ true → early configuration by_nobody (Whole (replicate n 0)) (Some 2000) ≡ Some code.TooLarge
too_large n size = rw (length-replicate {A = ℕ} n 0, size) refl

of_nobody : (n : ℕ) → nat_lt MOST_BODY n ≡ false → early configuration by_nobody (Whole (replicate n 0)) (Some 2000) ≡ Some code.Token
of_nobody n size = rw (length-replicate {A = ℕ} n 0, size) refl

pub returns-clause-largest : goal.returns-clause-largest
returns-clause-largest c = of_nobody 1048576 refl

pub returns-clause-one_more : goal.returns-clause-one_more
returns-clause-one_more c = too_large 1048577 refl
