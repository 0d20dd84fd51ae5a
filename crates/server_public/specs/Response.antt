-- The responses with public documents, or with a refusal (MDS 2.0, general information: responses, error messages).
use Rattle.std.specs.Prelude.{◌≡◌, ℕ, List, [], ◌∷◌, ◌++◌, ◌==◌, map, length, codes, if◌then◌else◌, Some, None, unwrap_or, Result, Ok, Err}
use Rattle.http_header.specs.FieldValue.{FieldValue, plain_value}
use Rattle.http_header.specs.HeaderMap.{Entry}
use Rattle.http_uri.specs.Uri.{uri_query}
use Rattle.http.specs.Response.{head_of, body_of}
use Rattle.http.specs.declared.request.Parts.{Parts}
use Rattle.http.specs.declared.response.Response.{Response}
use Rattle.http_body_util.specs.declared.full.Full.{Full}
use Rattle.server_public.specs.declared.refusal.Refusal.{Refusal}
use Rattle.server_public.specs.declared.refusal.Refusal.TheVariants.{BadParameter, NotFound, Method, NotAcceptable}

-- RFC 9110, sections 15.5.1, 15.5.5, 15.5.6 and 15.5.7
abbrev pub refusal_status : Refusal → ℕ
refusal_status BadParameter = 400
refusal_status NotFound = 404
refusal_status Method = 405
refusal_status NotAcceptable = 406

abbrev pub status_of : Result (List ℕ) Refusal → ℕ
status_of (Ok body) = 200
status_of (Err refusal) = refusal_status refusal

-- the body of a refusal: its error, in words and without further details
abbrev pub refusal_text : Refusal → List ℕ
refusal_text BadParameter =
    codes "{\"error\":\"bad_param\",\"error_description\":\"moments are milliseconds since the Unix epoch\",\"error_details\":[]}"
refusal_text NotFound = codes "{\"error\":\"not_found\",\"error_description\":\"nothing of this identifier is public\",\"error_details\":[]}"
refusal_text Method = codes "{\"error\":\"method\",\"error_description\":\"this is only to be read\",\"error_details\":[]}"
refusal_text NotAcceptable = codes "{\"error\":\"not_acceptable\",\"error_description\":\"the version served is 2.0\",\"error_details\":[]}"

abbrev pub content_of : Result (List ℕ) Refusal → List ℕ
content_of (Ok body) = body
content_of (Err refusal) = refusal_text refusal

-- The fields of every response: its type with its version; a cache has to ask before it uses it again (RFC 9111, section
-- 5.2.2.4); and a page of any origin may read it (Fetch, CORS protocol).
abbrev pub common_fields : List (List ℕ × List ℕ)
common_fields =
    (codes "content-type", codes "application/vnd.mds+json;version=2.0")
    ∷ (codes "cache-control", codes "no-cache")
    ∷ (codes "access-control-allow-origin", codes "*")
    ∷ []

abbrev pub fields_of : Result (List ℕ) Refusal → List (List ℕ × List ℕ)
fields_of (Err Method) = common_fields ++ (codes "allow", codes "GET, HEAD") ∷ []
fields_of answer = common_fields

-- a header field, as `HeaderMap` has it
abbrev pub field : List ℕ × List ℕ → Entry FieldValue
field f = (f.0, plain_value f.1 ∷ [])

-- the response has this answer
pub record Says (answer : Result (List ℕ) Refusal) (response : Response (Full (List ℕ))) : Type 0 where
  pub status : (head_of response).status ≡ status_of answer
  pub body : (body_of response).buf ≡ (if length (content_of answer) == 0 then None else Some (content_of answer))
  pub headers : (head_of response).headers ≡ map field (fields_of answer)

-- the query of a target, empty where it has none
abbrev pub query_of : Parts → List ℕ
query_of parts = unwrap_or (uri_query parts.uri) []
