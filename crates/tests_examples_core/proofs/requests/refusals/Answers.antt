use Rattle.std.proofs.Common.{◌≡◌, ℕ, codes, replicate, true, false, nat_lt, Err, refl}
use Rattle.std.proofs.lemmas.List.{length-replicate}
use Rattle.mds_request.specs.Call.{call_of}
use Rattle.mds_request.specs.declared.call.TheConstants.{MOST_BODY}
use Rattle.mds_request.specs.declared.code.Code.TheVariants.{TooLarge, Token}
use Rattle.mds_request.specs.declared.request.Verb.TheVariants.{Get}
use Rattle.tests_examples_core.specs.Requests.{configuration, request}
use Rattle.tests_examples_core.proofs.requests.refusals.Goals as goal

-- by the size alone, so that no long body is computed
too_large : (n : ℕ) → nat_lt MOST_BODY n ≡ true → call_of configuration (request 2000 (codes "nobody") Get (codes "/nowhere") (replicate n 0)) ≡ Err TooLarge
too_large n size = rw (length-replicate {A = ℕ} n 0, size) refl

of_nobody : (n : ℕ) → nat_lt MOST_BODY n ≡ false → call_of configuration (request 2000 (codes "nobody") Get (codes "/nowhere") (replicate n 0)) ≡ Err Token
of_nobody n size = rw (length-replicate {A = ℕ} n 0, size) refl

pub returns-clause-size : goal.returns-clause-size
returns-clause-size c = too_large 1048577 refl

pub returns-clause-largest : goal.returns-clause-largest
returns-clause-largest c = of_nobody 1048576 refl
