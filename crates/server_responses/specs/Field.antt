-- A response with one more header field.
use Rattle.std.specs.Prelude.{◌≡◌, ℕ, List}
use Rattle.http_header.specs.FieldValue.{FieldValue}
use Rattle.http_header.specs.HeaderMap.{insert}
use Rattle.http.specs.Response.{head_of, body_of}
use Rattle.http.specs.declared.response.Response.{Response}
use Rattle.http_body_util.specs.declared.full.Full.{Full}

-- the same response, but for a field with this value (RFC 9110, section 5)
pub record HasField (name : List ℕ) (value : FieldValue) (plain response : Response (Full (List ℕ))) : Type 0 where
  pub status : (head_of response).status ≡ (head_of plain).status
  pub body : body_of response ≡ body_of plain
  pub headers : (head_of response).headers ≡ insert (head_of plain).headers name value
