-- The request of an HTTP request's head and body.
use Rattle.std.specs.Prelude.{ℕ, List, [], ◌∷◌, codes, take, drop, option_map, unwrap_or, if◌then◌else◌}
use Rattle.std.specs.Str.{str_eq_ignore_ascii_case}
use Rattle.http_header.specs.FieldValue.{FieldValue}
use Rattle.http_header.specs.HeaderMap.{Entries, get_all}
use Rattle.http_uri.specs.Grammar.{or_slash}
use Rattle.http_uri.specs.Uri.{uri_path_and_query}
use Rattle.http_uri.specs.declared.uri.Uri.{Uri}
use Rattle.http.specs.declared.request.Parts.{Parts}
use Rattle.mds_request.specs.Request.{Request, verb_of}

-- The access token of credentials: what follows the scheme `Bearer`, in any letter case (RFC 9110, section 11.1), and
-- one space (RFC 6750, section 2.1). Credentials of another form carry no bytes, and no access token is empty (MDS 2.0,
-- bearer tokens).
abbrev pub token_in : List ℕ → List ℕ
token_in credentials = if str_eq_ignore_ascii_case (take 7 credentials) (codes "Bearer ") then drop 7 credentials else []

-- the credentials of the only field; none and several carry no access token
abbrev pub token_among : List FieldValue → List ℕ
token_among (field ∷ []) = token_in field.bytes
token_among fields = []

-- the access token of a head's `authorization` fields (RFC 9110, section 11.6.2)
abbrev pub token_of : Entries FieldValue → List ℕ
token_of headers = token_among (get_all headers (codes "authorization"))

-- the path, where an empty one is `/` (RFC 9110, section 4.2.3), with its query (RFC 9112, section 3.2); a target with
-- an authority alone has none
abbrev pub target_of : Uri → List ℕ
target_of uri = unwrap_or (option_map or_slash (uri_path_and_query uri)) []

abbrev pub request_in : Parts → List ℕ → ℕ → Request
request_in parts body at =
    record {
      at = at;
      token = token_of parts.headers;
      verb = verb_of parts.method;
      target = target_of parts.uri;
      body = body;
    }
