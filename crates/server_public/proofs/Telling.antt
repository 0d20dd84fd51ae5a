-- From the cached documents to the response.
use Rattle.std.proofs.Common.{◌≡◌, ℕ, List, Result, Ok, Err, IfOk, sym, ap, subst, ◌∙◌}
use Rattle.std.proofs.Math.Logic.{∥∥₁_map}
use Rattle.std.specs.declared.alloc.AllocError.{AllocError}
use Rattle.http.specs.declared.request.Parts.{Parts}
use Rattle.http.specs.declared.response.Response.{Response}
use Rattle.http_body_util.specs.declared.full.Full.{Full}
use Rattle.server_public.specs.Answer.{Meets, answer_of}
use Rattle.server_public.specs.View.{face}
use Rattle.server_routes.specs.declared.public_target.PublicTarget.{PublicTarget}
use Rattle.server_public.specs.declared.public_documents.PublicDocuments as program
use Rattle.server_public.specs.declared.refusal.PublicFault.{PublicFault}
use Rattle.server_public.specs.declared.refusal.PublicFault.TheVariants.{Refused}
use Rattle.server_public.specs.declared.refusal.Refusal.{Refusal}
use Rattle.mds_request.specs.Configuration.{Configuration}
use Rattle.server_public.specs.Response.{Says, query_of}
use Rattle.server_public.specs.CachedDocuments.{IsFace, IsTold}

-- the refusal is the expected one
pub refused_for : (expected : Result (List ℕ) Refusal) (answer : Result (List ℕ) PublicFault) (denied : PublicFault) (refusal : Refusal)
    → answer ≡ Err denied → denied ≡ Refused refusal → Meets expected answer → expected ≡ Err refusal
refused_for expected answer denied refusal is denied_is meets = subst (Meets expected) (is ∙ ap (λ d. Err d) denied_is) meets

-- the answer of the cached documents is that of the room's publications
pub says_of_room : (configuration : Configuration) (f : program.PublicDocuments) (asked : PublicTarget) (parts : Parts) (answer : Result (List ℕ) Refusal)
    (response : Result (Response (Full (List ℕ))) AllocError)
    → ∥ IsFace configuration f ∥₁ → answer_of (face f) asked parts.method (query_of parts) parts.headers ≡ answer → IfOk response (Says answer)
    → IfOk response (IsTold configuration asked parts)
says_of_room configuration f asked parts answer (Ok response) of is says =
    ∥∥₁_map of (λ it. record {
      room = it.room;
      is_its = it.is_its;
      tells = subst (λ a. Says a response) (sym is ∙ ap (λ shown. answer_of shown asked parts.method (query_of parts) parts.headers) it.tells) says;
    })
says_of_room configuration f asked parts answer (Err e) of is says = tt
