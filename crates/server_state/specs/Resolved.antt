-- What a head is resolved to.
use Rattle.std.specs.Prelude.{ℕ, Result, Ok, Err}
use Rattle.http.specs.declared.request.Parts.{Parts}
use Rattle.server_admission.specs.Cost.{cost_of}
use Rattle.server_admission.specs.declared.cost.Cost.{Cost}
use Rattle.server_admission.specs.declared.cost.Cost.TheVariants.{Free}
use Rattle.mds_request.specs.Call.{called_at, segments_of}
use Rattle.mds_request.specs.Configuration.{Configuration, actor_of}
use Rattle.mds_request.specs.Request.{verb_of}
use Rattle.mds_request.specs.declared.call.Call.{Call}
use Rattle.mds_request.specs.declared.code.Code.{Code}
use Rattle.server_state.specs.HttpRequest.{target_of, token_of}

-- what a head calls for, or the first refusal, whatever body within its limit follows it
abbrev pub call_in : Configuration → Parts → Result Call Code
call_in configuration parts =
    called_at (actor_of configuration (token_of parts.headers)) (verb_of parts.method) (segments_of (target_of parts.uri))

-- what the answer to it takes of its client's queue, where the body has so many bytes; a refusal takes nothing
abbrev pub cost_in : Result Call Code → ℕ → Cost
cost_in (Ok call) length = cost_of call length
cost_in (Err code) length = Free
