-- The answer to a request for the public documents.
use Rattle.std.specs.Prelude.{◌≡◌, ⊤, ℕ, List, [], ◌∷◌, map, filter, find, Bool, true, ◌||◌, bytes_eq, codes, Option, Some, None, Result, Ok, Err, if◌then◌else◌}
use Rattle.http_header.specs.FieldValue.{FieldValue}
use Rattle.http_header.specs.HeaderMap.{Entries}
use Rattle.server_public.specs.AcceptField.{is_accepted}
use Rattle.server_public.specs.Body.{body_text}
use Rattle.server_public.specs.Documents.{Face, Notice}
use Rattle.server_public.specs.Period.{is_in, period_in}
use Rattle.server_routes.specs.declared.public_target.PublicTarget.{PublicTarget}
use Rattle.server_routes.specs.declared.public_target.PublicTarget.TheVariants.{Policies, Policy, Geographies, Geography}
use Rattle.server_public.specs.declared.period.Period.{Period}
use Rattle.server_public.specs.declared.refusal.Refusal.{Refusal}
use Rattle.server_public.specs.declared.refusal.Refusal.TheVariants.{BadParameter, NotFound, Method, NotAcceptable}
use Rattle.server_public.specs.declared.refusal.PublicFault.{PublicFault}
use Rattle.server_public.specs.declared.refusal.PublicFault.TheVariants.{NoMemory, Refused}

-- a method by which something is read (RFC 9110, sections 9.3.1 and 9.3.2)
abbrev pub reads : List ℕ → Bool
reads method = bytes_eq method (codes "GET") || bytes_eq method (codes "HEAD")

-- documents under their name
abbrev pub told : List ℕ → List Notice → ℕ → List ℕ
told name notices updated = body_text name (map (λ n. n.text) notices) updated

-- the policies that hold in a period, in the order of their publication
abbrev pub policies_told : Face → Option Period → Result (List ℕ) Refusal
policies_told face None = Err BadParameter
policies_told face (Some period) = Ok (told (codes "policies") (filter (is_in period) face.policies) face.updated)

-- the document of this identifier
abbrev pub sought : List Notice → Option (List ℕ) → Option Notice
sought notices None = None
sought notices (Some id) = find (λ n. bytes_eq n.id id) notices

-- one document under its name
abbrev pub one_told : List ℕ → Option Notice → ℕ → Result (List ℕ) Refusal
one_told name None updated = Err NotFound
one_told name (Some n) updated = Ok (told name (n ∷ []) updated)

-- the body that a request asks for; the query of anything but the list of policies doesn't matter
abbrev pub found : Face → PublicTarget → List ℕ → Result (List ℕ) Refusal
found face Policies query = policies_told face (period_in query)
found face (Policy id) query = one_told (codes "policies") (sought face.policies id) face.updated
found face Geographies query = Ok (told (codes "geographies") face.geographies face.updated)
found face (Geography id) query = one_told (codes "geographies") (sought face.geographies id) face.updated

-- the answer to a request with this method, query and fields
abbrev pub answer_of : Face → PublicTarget → List ℕ → List ℕ → Entries FieldValue → Result (List ℕ) Refusal
answer_of face asked method query headers =
    if reads method then (if is_accepted headers then found face asked query else Err NotAcceptable) else Err Method

-- the answer is the expected one, where it isn't out of memory
abbrev pub Meets : Result (List ℕ) Refusal → Result (List ℕ) PublicFault → Type 0
Meets expected (Ok body) = expected ≡ Ok body
Meets expected (Err NoMemory) = ⊤
Meets expected (Err (Refused refusal)) = expected ≡ Err refusal
