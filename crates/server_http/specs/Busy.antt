-- Responses that only the connection layer gives: that the server is busy, and that the connection closes.
use Rattle.std.specs.Prelude.{◌≡◌, ℕ, List, [], ◌∷◌, Some, codes}
use Rattle.http_header.specs.FieldValue.{plain_value}
use Rattle.http.specs.Response.{head_of, body_of}
use Rattle.http.specs.declared.response.Response.{Response}
use Rattle.http_body_util.specs.declared.full.Full.{Full}
use Rattle.server_responses.specs.Field.{HasField}

-- the same response, which says that the connection is closed after it (RFC 9112, section 9.6)
abbrev pub Closes : Response (Full (List ℕ)) → Response (Full (List ℕ)) → Type 0
Closes = HasField (codes "connection") (plain_value (codes "close"))

-- 503 (RFC 9110, section 15.6.4) with one line of JSON (RFC 9110, section 8.3; RFC 8259, section 11), after which the
-- connection is closed
pub record SaysBusy (response : Response (Full (List ℕ))) : Type 0 where
  pub status : (head_of response).status ≡ 503
  pub body : (body_of response).buf ≡ Some (codes "{\"error\":\"busy\"}")
  pub headers : (head_of response).headers ≡ (codes "content-type", plain_value (codes "application/json") ∷ []) ∷ (codes "connection", plain_value (codes "close") ∷ []) ∷ []
