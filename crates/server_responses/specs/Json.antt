-- A response whose body is JSON.
use Rattle.std.specs.Prelude.{◌≡◌, ℕ, List, [], ◌∷◌, ◌==◌, length, codes, if◌then◌else◌, Some, None}
use Rattle.http_header.specs.FieldValue.{plain_value}
use Rattle.http.specs.Response.{head_of, body_of}
use Rattle.http.specs.declared.response.Response.{Response}
use Rattle.http_body_util.specs.declared.full.Full.{Full}

-- it has this status and body, and its only field says that the body is JSON (RFC 9110, section 8.3; RFC 8259, section
-- 11)
pub record IsJson (code : ℕ) (text : List ℕ) (response : Response (Full (List ℕ))) : Type 0 where
  pub status : (head_of response).status ≡ code
  pub body : (body_of response).buf ≡ (if length text == 0 then None else Some text)
  pub json : (head_of response).headers ≡ (codes "content-type", plain_value (codes "application/json") ∷ []) ∷ []
