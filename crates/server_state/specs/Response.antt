-- The HTTP response of a reply.
use Rattle.std.specs.Prelude.{◌≡◌, ℕ, List, [], ◌∷◌, codes, unwrap_or}
use Rattle.http_header.specs.FieldValue.{plain_value}
use Rattle.http.specs.Response.{head_of, body_of}
use Rattle.http.specs.declared.response.Response.{Response}
use Rattle.http_body_util.specs.declared.full.Full.{Full}
use Rattle.mds_request.specs.Reply.{Reply}

-- the bytes of a body of one piece
abbrev pub bytes_of : Full (List ℕ) → List ℕ
bytes_of body = unwrap_or body.buf []

-- its status and body are the reply's, and its only header field says that the body is JSON (RFC 9110, section 8.3; RFC
-- 8259, section 11)
pub record Says (response : Response (Full (List ℕ))) (reply : Reply) : Type 0 where
  pub status : (head_of response).status ≡ reply.status
  pub body : bytes_of (body_of response) ≡ reply.body
  pub json : (head_of response).headers ≡ (codes "content-type", plain_value (codes "application/json") ∷ []) ∷ []
