-- What a call of the author does: its reply, and the drafts and the publications afterwards.
use Rattle.std.specs.Prelude.{ℕ, ◌+◌, List, [], ◌∷◌, ◌++◌, length, codes, bytes_eq, if◌then◌else◌, None, Result, Ok, Err}
use Rattle.mds_text.specs.Tree.{Json}
use Rattle.mds_text.specs.declared.draft_kind.DraftKind.{DraftKind}
use Rattle.mds_text.specs.declared.draft_kind.DraftKind.TheVariants as kinds
use Rattle.mds_policy.specs.Reading.{read_policy}
use Rattle.mds_policy.specs.Served as served_policy
use Rattle.mds_geography.specs.Reading.{read_geography}
use Rattle.mds_geography.specs.Served as served_geography
use Rattle.mds_catalog.specs.Publication.{Publication}
use Rattle.mds_drafts.specs.Drafts.{Drafts, Document, policy, geography, id_of, draft_at, has_draft, with_draft, without_draft, put_answer, taken_out}
use Rattle.mds_drafts.specs.Named.{read_publish_list}
use Rattle.mds_drafts.specs.Publishing.{batch_of}
use Rattle.mds_drafts.specs.declared.drafts.Put.{Put}
use Rattle.mds_drafts.specs.declared.drafts.Put.TheVariants.{New, Replaced}
use Rattle.mds_request.specs.Request.{Request}
use Rattle.mds_request.specs.Reply.{Reply}
use Rattle.mds_request.specs.declared.call.AuthorCall.{AuthorCall}
use Rattle.mds_request.specs.declared.call.AuthorCall.TheVariants.{Policies, Policy, Geographies, Geography, PutDraft, Draft, DropDraft, Publish}
use Rattle.mds_request.specs.declared.code.Code.{Code}
use Rattle.mds_request.specs.declared.code.Code.TheVariants.{IdMismatch, NoDraft}
use Rattle.mds_machine.specs.Answer.{told, coded, or_code, leaving, ◌>>=◌}
use Rattle.mds_machine.specs.Codes.{fault_code, put_code, publish_code}
use Rattle.mds_machine.specs.Bodies.{result_json, removed_json, draft_json, published_json}
use Rattle.mds_machine.specs.Published.{policies_reply, policy_answer, geographies_reply, geography_answer}

-- the document of a kind that a text is read as
abbrev pub document_of : DraftKind → List ℕ → Result Document Code
document_of kinds.Policy text = coded fault_code (read_policy text) >>= λ d. Ok (policy d)
document_of kinds.Geography text = coded fault_code (read_geography text) >>= λ d. Ok (geography d)

-- a draft's own identifier must be the one in the path
abbrev pub under : List ℕ → Document → Result Document Code
under id document = if bytes_eq (id_of document) id then Ok document else Err IdMismatch

-- the word for what a put did
abbrev pub put_word : Put → List ℕ
put_word New = codes "new"
put_word Replaced = codes "replaced"

-- a put of a draft
abbrev pub put_draft : Drafts → DraftKind → List ℕ → List ℕ → Result (Reply × Drafts) Code
put_draft drafts kind id text = do
  read ← document_of kind text
  document ← under id read
  put ← coded put_code (put_answer drafts document)
  Ok (told (result_json (put_word put)), with_draft drafts document)

-- a draft as it is served: without a moment, because it isn't published
abbrev pub draft_served : Document → Json
draft_served (policy d) = served_policy.served d None
draft_served (geography d) = served_geography.served d None

-- a request for a draft
abbrev pub draft_answer : Drafts → DraftKind → List ℕ → Result Reply Code
draft_answer drafts kind id = do
  document ← or_code NoDraft (draft_at drafts kind id)
  Ok (told (draft_json (draft_served document)))

-- a drop of a draft
abbrev pub drop_draft : Drafts → DraftKind → List ℕ → Result (Reply × Drafts) Code
drop_draft drafts kind id =
    if has_draft drafts kind id then Ok (told (removed_json id), without_draft drafts kind id) else Err NoDraft

-- the publication of a publish request
abbrev pub publication_asked : Drafts → List Publication → Request → Result Publication Code
publication_asked drafts publications request = do
  named ← coded fault_code (read_publish_list request.body)
  coded publish_code (batch_of drafts named publications request.at)

-- a publication of drafts: it is appended to the publications, and they are no longer drafts
abbrev pub publish : Drafts → List Publication → Request → Result (Reply × (Drafts × List Publication)) Code
publish drafts publications request = do
  p ← publication_asked drafts publications request
  Ok (told (published_json request.at (length publications + 1)), (taken_out drafts p, publications ++ p ∷ []))

-- a change of drafts alone keeps the publications
abbrev pub beside : List Publication → Reply × Drafts → Result (Reply × (Drafts × List Publication)) Code
beside publications after = Ok (after.0, (after.1, publications))

-- What a call does: only puts, drops and publications change something.
abbrev pub author_does : Drafts → List Publication → AuthorCall → Request → Result (Reply × (Drafts × List Publication)) Code
author_does drafts publications Policies request = Ok (policies_reply publications None, (drafts, publications))
author_does drafts publications (Policy id) request = policy_answer publications None id >>= leaving (drafts, publications)
author_does drafts publications Geographies request = Ok (geographies_reply publications, (drafts, publications))
author_does drafts publications (Geography id) request = geography_answer publications id >>= leaving (drafts, publications)
author_does drafts publications (PutDraft kind id) request = put_draft drafts kind id request.body >>= beside publications
author_does drafts publications (Draft kind id) request = draft_answer drafts kind id >>= leaving (drafts, publications)
author_does drafts publications (DropDraft kind id) request = drop_draft drafts kind id >>= beside publications
author_does drafts publications Publish request = publish drafts publications request
