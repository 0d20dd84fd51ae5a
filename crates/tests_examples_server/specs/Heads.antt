-- Heads of HTTP requests, and responses.
use Rattle.std.specs.Prelude.{ℕ, List, [], ◌∷◌, map, codes, Some, None, is_some, refl}
use Rattle.std.proofs.Common.{ap, sym}
use Rattle.std.proofs.lemmas.Bool.{false≢true}
use Rattle.http.specs.declared.request.Parts.{Parts}
use Rattle.http.specs.declared.response.Parts.{Parts as ResponseHead}
use Rattle.http.specs.declared.response.Response.{Response}
use Rattle.http.specs.declared.version.TheConstants.Version.{HTTP_11}
use Rattle.http_body_util.specs.declared.full.Full.{Full}
use Rattle.http_header.specs.FieldValue.{FieldValue, plain_value}
use Rattle.http_header.specs.HeaderMap.{Entries}
use Rattle.http_uri.specs.declared.uri.Uri.{Uri}

-- targets in origin form, in absolute form and in authority form (RFC 9112, sections 3.2.1 to 3.2.3)
abbrev pub origin : List ℕ → Uri
origin target =
    record {
      scheme = None;
      authority = None;
      path_and_query = target;
      absolute = λ scheme e. ap is_some e;
      authority_alone = λ none host e. absurd (false≢true (ap is_some e));
    }

abbrev pub with_scheme : List ℕ → List ℕ → Uri
with_scheme host target =
    record {
      scheme = Some (codes "http");
      authority = Some host;
      path_and_query = target;
      absolute = λ scheme e. refl;
      authority_alone = λ none. absurd (false≢true (ap is_some (sym none)));
    }

abbrev pub host_alone : List ℕ → Uri
host_alone host =
    record {
      scheme = None;
      authority = Some host;
      path_and_query = [];
      absolute = λ scheme e. refl;
      authority_alone = λ none host e. refl;
    }

-- header fields without `authorization`, and with these values of it in their order
abbrev pub anonymous : Entries FieldValue
anonymous = (codes "host", plain_value (codes "mds.example.org") ∷ []) ∷ []

abbrev pub with_credentials : List (List ℕ) → Entries FieldValue
with_credentials credentials =
    (codes "host", plain_value (codes "mds.example.org") ∷ [])
    ∷ (codes "authorization", map plain_value credentials)
    ∷ []

abbrev pub head : List ℕ → Uri → Entries FieldValue → Parts
head method uri headers = record { method = method; uri = uri; version = HTTP_11; headers = headers }

-- a GET request for a path by the first operator, and a compliance question without credentials
abbrev pub by_alfa : List ℕ → Parts
by_alfa path = head (codes "GET") (origin path) (with_credentials (codes "Bearer alfa" ∷ []))

abbrev pub by_nobody : Parts
by_nobody = head (codes "GET") (origin (codes "/compliance")) anonymous

-- a response of JSON
abbrev pub json_response : ℕ → List ℕ → Response (Full (List ℕ))
json_response status body =
    let fields : Entries FieldValue = (codes "content-type", plain_value (codes "application/json") ∷ []) ∷ [] in
    let answered : ResponseHead = record { status = status; version = HTTP_11; headers = fields } in
    record { head = answered; body = record { buf = Some body } }

-- a response of this status and body without a content type
abbrev pub plain_response : ℕ → List ℕ → Response (Full (List ℕ))
plain_response status body =
    let answered : ResponseHead = record { status = status; version = HTTP_11; headers = [] } in
    record { head = answered; body = record { buf = Some body } }
