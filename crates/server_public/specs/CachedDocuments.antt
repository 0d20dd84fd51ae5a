-- The public documents: of the publications of the author's room, and of nothing else.
use Rattle.std.specs.Prelude.{◌≡◌, ℕ, List, Result}
use Rattle.http.specs.declared.request.Parts.{Parts}
use Rattle.http.specs.declared.response.Response.{Response}
use Rattle.http_body_util.specs.declared.full.Full.{Full}
use Rattle.mds_catalog.specs.Publication.{Publication}
use Rattle.server_public.specs.Answer.{answer_of}
use Rattle.server_public.specs.Documents.{face_of}
use Rattle.server_public.specs.View.{face}
use Rattle.server_routes.specs.declared.public_target.PublicTarget.{PublicTarget}
use Rattle.server_public.specs.declared.public_documents.PublicDocuments as program
use Rattle.server_public.specs.declared.refusal.Refusal.{Refusal}
use Rattle.mds_request.specs.Configuration.{Configuration}
use Rattle.server_state.specs.Query.{RoomTells}
use Rattle.server_public.specs.Response.{Says, query_of}

-- all public documents of publications
abbrev pub IsFaceOf : List Publication → program.PublicDocuments → Type 0
IsFaceOf publications told = face told ≡ face_of publications

-- the public documents of the publications of the author's room of this configuration
abbrev pub IsFace : Configuration → program.PublicDocuments → Type 0
IsFace configuration told = RoomTells configuration (λ drafts publications f. IsFaceOf publications f) told

-- the answer to a request for this
abbrev pub answer_to : List Publication → PublicTarget → Parts → Result (List ℕ) Refusal
answer_to publications asked parts = answer_of (face_of publications) asked parts.method (query_of parts) parts.headers

-- the response has the answer, of the publications of the author's room of this configuration
abbrev pub IsTold : Configuration → PublicTarget → Parts → Response (Full (List ℕ)) → Type 0
IsTold configuration asked parts response = ∥ RoomTells configuration (λ drafts publications told. Says (answer_to publications asked parts) told) response ∥₁
