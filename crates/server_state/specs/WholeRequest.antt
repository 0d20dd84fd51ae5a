-- A request whose body has arrived.
use Rattle.std.specs.Prelude.{◌≡◌, ℕ, Option, None, IfSome}
use Rattle.http.specs.declared.request.Parts.{Parts}
use Rattle.server_admission.specs.Arrival.{body_in}
use Rattle.server_admission.specs.declared.arrival.Arrived.{Arrived}
use Rattle.mds_request.specs.Request.{Request}
use Rattle.server_state.specs.HttpRequest.{request_in}
use Rattle.server_state.specs.Early.{unheard}
use Rattle.server_state.specs.declared.whole_request.WholeRequest.{WholeRequest}

-- the request that a `WholeRequest` stands for
abbrev pub request_heard : WholeRequest → Request
request_heard heard = request_in heard.parts.now heard.body.now heard.at

-- nothing of what arrived is refused, and this is its request
pub record IsHeard (parts : Parts) (arrived : Arrived) (at : Option ℕ) (request : Request) : Type 0 where
  pub allowed : unheard arrived at ≡ None
  pub is_it : IfSome at (λ moment. request ≡ request_in parts (body_in arrived) moment)
