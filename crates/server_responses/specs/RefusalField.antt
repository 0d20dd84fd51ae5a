-- A response with the header field that its refusal needs.
use Rattle.std.specs.Prelude.{◌≡◌, ◌==◌, ℕ, List, codes, if◌then◌else◌, IfOk, Option, Some, None, Result, Ok, Err}
use Rattle.std.specs.Option.{is_some}
use Rattle.std.specs.declared.alloc.AllocError.{AllocError}
use Rattle.http_header.specs.FieldValue.{FieldValue, plain_value}
use Rattle.http_header.specs.HeaderMap.{Entries, get, insert}
use Rattle.http.specs.Response.{head_of, body_of}
use Rattle.http.specs.declared.response.Response.{Response}
use Rattle.http_body_util.specs.declared.full.Full.{Full}
use Rattle.server_responses.specs.Methods.{text_of}
use Rattle.server_responses.specs.declared.methods.Methods.{Methods}

-- the fields with this one, where they hadn't the name
abbrev pub with_missing : List ℕ → List ℕ → Entries FieldValue → Entries FieldValue
with_missing name text headers = if is_some (get headers name) then headers else insert headers name (plain_value text)

-- the fields of a response with this status, for a refusal with these methods: a 401 has the scheme of credentials (RFC
-- 9110, section 11.6.1), and a 405 the methods (section 10.2.1)
abbrev pub guided_fields : Option Methods → ℕ → Entries FieldValue → Entries FieldValue
guided_fields None status headers =
    if status == 401 then with_missing (codes "www-authenticate") (codes "Bearer") headers else headers
guided_fields (Some methods) status headers =
    if status == 401 then with_missing (codes "www-authenticate") (codes "Bearer") headers
    else if status == 405 then with_missing (codes "allow") (text_of methods) headers
    else headers

abbrev pub Plain : Type 0
Plain = Response (Full (List ℕ))

-- the same response, with these fields
pub record HasFields (fields : Entries FieldValue) (plain response : Plain) : Type 0 where
  pub status : (head_of response).status ≡ (head_of plain).status
  pub body : body_of response ≡ body_of plain
  pub headers : (head_of response).headers ≡ fields

abbrev pub IsNamed : List ℕ → List ℕ → Plain → Plain → Type 0
IsNamed name text plain response = HasFields (with_missing name text (head_of plain).headers) plain response

-- The response is the plain one, with the field that a refusal needs.
abbrev pub IsGuided : Option Methods → Plain → Plain → Type 0
IsGuided methods plain response =
    HasFields (guided_fields methods (head_of plain).status (head_of plain).headers) plain response

-- The result follows the other one: the same response with its field, or out of memory.
abbrev pub Follows : Option Methods → Result Plain AllocError → Result Plain AllocError → Type 0
Follows methods (Ok plain) told = IfOk told (IsGuided methods plain)
Follows methods (Err fault) told = told ≡ Err fault
