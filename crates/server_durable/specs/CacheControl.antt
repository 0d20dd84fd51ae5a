-- Responses that no cache may store.
use Rattle.std.specs.Prelude.{◌≡◌, ℕ, List, codes, Option, Some}
use Rattle.http_header.specs.FieldValue.{plain_value}
use Rattle.http_header.specs.HeaderMap.{insert}
use Rattle.http.specs.Response.{head_of, body_of}
use Rattle.http.specs.declared.response.Response.{Response}
use Rattle.http_body_util.specs.declared.full.Full.{Full}

-- the plain response with the field `cache-control: no-store` (RFC 9111, section 5.2.2.5)
pub record IsUnstored (plain response : Response (Full (List ℕ))) : Type 0 where
  pub status : (head_of response).status ≡ (head_of plain).status
  pub body : body_of response ≡ body_of plain
  pub headers : (head_of response).headers ≡ insert (head_of plain).headers (codes "cache-control") (plain_value (codes "no-store"))

-- the response that waits is such a response, which no cache may store
abbrev pub Waits : (Response (Full (List ℕ)) → Type 0) → Option (Response (Full (List ℕ))) → Type 0
Waits Kind reply = (response : Response (Full (List ℕ))) × (plain : Response (Full (List ℕ))) × (reply ≡ Some response) × IsUnstored plain response × Kind plain
