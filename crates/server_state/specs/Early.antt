-- Refusals before a desk or the author's room is asked.
use Rattle.std.specs.Prelude.{ℕ, length, nat_lt, if◌then◌else◌, Option, Some, None}
use Rattle.http.specs.declared.request.Parts.{Parts}
use Rattle.server_admission.specs.declared.arrival.Arrived.{Arrived}
use Rattle.server_admission.specs.declared.arrival.Arrived.TheVariants.{Whole, Broken, TooLong, NoMemory}
use Rattle.mds_request.specs.Configuration.{Configuration, actor_of}
use Rattle.mds_request.specs.declared.call.TheConstants.{MOST_BODY}
use Rattle.mds_request.specs.declared.code.Code.{Code}
use Rattle.mds_request.specs.declared.code.Code.TheVariants as code
use Rattle.mds_request.specs.declared.config.Actor.{Actor}
use Rattle.mds_request.specs.declared.config.Actor.TheVariants.{Nobody}
use Rattle.server_state.specs.HttpRequest.{token_of}

-- First a request without a moment is refused, then one without a body within its limit.
abbrev pub unheard : Arrived → Option ℕ → Option Code
unheard arrived None = Some code.Clock
unheard Broken (Some at) = Some code.BadBody
unheard TooLong (Some at) = Some code.TooLarge
unheard NoMemory (Some at) = Some code.NoMemory
unheard (Whole body) (Some at) = if nat_lt MOST_BODY (length body) then Some code.TooLarge else None

abbrev pub unknown : Actor → Option Code
unknown Nobody = Some code.Token
unknown actor = None

abbrev pub or_else : Option Code → Option Code → Option Code
or_else (Some code) next = Some code
or_else None next = next

-- then an anonymous one
abbrev pub early : Configuration → Parts → Arrived → Option ℕ → Option Code
early configuration parts arrived at = or_else (unheard arrived at) (unknown (actor_of configuration (token_of parts.headers)))
