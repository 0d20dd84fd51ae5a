-- How a head that each table has or hasn't is resolved.
use Rattle.std.proofs.Common.{◌≡◌, Bool, Option, Some, None, Result, sym, ap, ◌∙◌}
use Rattle.http.specs.declared.request.Parts.{Parts}
use Rattle.http_uri.specs.Uri.{uri_path}
use Rattle.mds_request.specs.Configuration.{Configuration, actor_of}
use Rattle.mds_request.specs.Request.{verb_of}
use Rattle.mds_request.specs.declared.code.Code.{Code}
use Rattle.mds_request.specs.declared.config.Actor.{Actor}
use Rattle.server_page.specs.File.{file_at}
use Rattle.server_page.specs.declared.file.File.{File}
use Rattle.server_state.specs.HttpRequest.{target_of, token_of}
use Rattle.server_routes.specs.Endpoint.{public_at}
use Rattle.server_routes.specs.Past.{past_in}
use Rattle.server_routes.specs.Resolution.{of_file, of_public, of_past, of_state, by_client, by_document, by_file, by_query, resolved_by}
use Rattle.server_routes.specs.State.{state_call}
use Rattle.server_routes.specs.declared.past.PastQuestion.{PastQuestion}
use Rattle.server_routes.specs.declared.public_target.PublicTarget.{PublicTarget}
use Rattle.server_routes.specs.declared.state.StateCall.{StateCall}

module _ (configuration : Configuration) (is_public : Bool) (parts : Parts) where
  pub file_resolved : (file : File) → file_at (uri_path parts.uri) ≡ Some file
      → resolved_by configuration is_public parts ≡ of_file file
  file_resolved file found = ap (by_file configuration is_public parts) found

  no_file : file_at (uri_path parts.uri) ≡ None
      → resolved_by configuration is_public parts ≡ by_document configuration parts (public_at is_public (uri_path parts.uri))
  no_file absent = ap (by_file configuration is_public parts) absent

  pub public_resolved : (asked : PublicTarget) → file_at (uri_path parts.uri) ≡ None
      → public_at is_public (uri_path parts.uri) ≡ Some asked → resolved_by configuration is_public parts ≡ of_public asked
  public_resolved asked absent found = no_file absent ∙ ap (by_document configuration parts) found

  module _ (actor : Actor) (absent : file_at (uri_path parts.uri) ≡ None)
      (unlisted : public_at is_public (uri_path parts.uri) ≡ None)
      (asks : actor ≡ actor_of configuration (token_of parts.headers)) where
    client_resolved : resolved_by configuration is_public parts ≡ by_client parts actor
    client_resolved =
        no_file absent ∙ ap (by_document configuration parts) unlisted ∙ sym (ap (by_client parts) asks)

    module _ (call : Result StateCall Code) (calls : call ≡ state_call actor (verb_of parts.method) (target_of parts.uri)) where
      called : (past : Option PastQuestion) → past_in call (target_of parts.uri) ≡ past
          → resolved_by configuration is_public parts ≡ by_query actor call past
      called past is =
          client_resolved ∙ sym (ap (λ c. by_query actor c (past_in c (target_of parts.uri))) calls) ∙ ap (by_query actor call) is

      pub past_resolved : (question : PastQuestion) → past_in call (target_of parts.uri) ≡ Some question
          → resolved_by configuration is_public parts ≡ of_past actor question
      past_resolved question is = called (Some question) is

      pub state_resolved : past_in call (target_of parts.uri) ≡ None
          → resolved_by configuration is_public parts ≡ of_state actor call
      state_resolved is = called None is
