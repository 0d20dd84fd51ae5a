-- What a head asks for, and who asks, as one function of the configuration and the head: the tables in the order in which
-- they are looked at.
use Rattle.std.specs.Prelude.{ℕ, List, Bool, Option, Some, None, Result}
use Rattle.http.specs.declared.request.Parts.{Parts}
use Rattle.http_uri.specs.Uri.{uri_path}
use Rattle.mds_request.specs.Configuration.{Configuration, actor_of}
use Rattle.mds_request.specs.Request.{verb_of}
use Rattle.mds_request.specs.declared.code.Code.{Code}
use Rattle.mds_request.specs.declared.config.Actor.{Actor}
use Rattle.server_page.specs.File.{file_at}
use Rattle.server_page.specs.declared.file.File.{File}
use Rattle.server_state.specs.HttpRequest.{target_of, token_of}
use Rattle.server_routes.specs.Endpoint.{public_at}
use Rattle.server_routes.specs.Past.{past_in}
use Rattle.server_routes.specs.State.{state_call}
use Rattle.server_routes.specs.declared.past.PastQuestion.{PastQuestion}
use Rattle.server_routes.specs.declared.public_target.PublicTarget.{PublicTarget}
use Rattle.server_routes.specs.declared.state.StateCall.{StateCall}

-- A file of the page and a public document are the same for all. Anything else is asked by a client, or refused with the
-- first refusal of the table of calls.
pub data Resolution : Type 0 where
  of_file : File → Resolution
  of_public : PublicTarget → Resolution
  of_past : Actor → PastQuestion → Resolution
  of_state : Actor → Result StateCall Code → Resolution

-- a question about the past, where the call is one about fleets and the query has a moment
abbrev pub by_query : Actor → Result StateCall Code → Option PastQuestion → Resolution
by_query actor call (Some question) = of_past actor question
by_query actor call None = of_state actor call

-- a call of the client
abbrev pub by_client : Parts → Actor → Resolution
by_client parts actor =
    let call = state_call actor (verb_of parts.method) (target_of parts.uri) in
    by_query actor call (past_in call (target_of parts.uri))

-- a public document, else a call of the client that the access token names
abbrev pub by_document : Configuration → Parts → Option PublicTarget → Resolution
by_document configuration parts (Some asked) = of_public asked
by_document configuration parts None = by_client parts (actor_of configuration (token_of parts.headers))

-- a file of the page, else what follows
abbrev pub by_file : Configuration → Bool → Parts → Option File → Resolution
by_file configuration is_public parts (Some file) = of_file file
by_file configuration is_public parts None = by_document configuration parts (public_at is_public (uri_path parts.uri))

abbrev pub resolved_by : Configuration → Bool → Parts → Resolution
resolved_by configuration is_public parts = by_file configuration is_public parts (file_at (uri_path parts.uri))
