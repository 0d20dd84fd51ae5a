use Rattle.std.specs.Prelude.{⊤, Result, Ok, Err, IfOk}
use Rattle.std.proofs.Common.{rules}
use Rattle.server_site.proofs.service.SiteRequestService.TheImpl.Goals as goal

-- the service leaves open what its responses are, so that all of them are such
pub all_are : {A E R : Type 0} (gives : A → R → Type 0) (result : Result A E) → IfOk result (λ reply. (response : R) → gives reply response → ⊤)
all_are gives (Ok reply) = λ response given. tt
all_are gives (Err fault) = tt

pub answer-tells : goal.answer-tells
answer-tells g x x' x'' c = record { poll = search rules; says = all_are _ c.result }
