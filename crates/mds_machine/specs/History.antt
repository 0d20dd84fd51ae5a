-- The drafts and publications of a history, which is requests with their replies, in order.
use Rattle.std.specs.Prelude.{ℕ, ◌==◌, ◌&&◌, Bool, true, false, List, [], ◌∷◌, ◌++◌, reverse, get_or, filter_map, if◌then◌else◌, Option, Some, None, option_map, option_and_then, Result, Ok, bytes_eq}
use Rattle.std.specs.Result.{result_ok}
use Rattle.mds_text.specs.declared.draft_kind.DraftKind.{DraftKind}
use Rattle.mds_text.specs.declared.draft_kind.DraftKind.TheVariants as kinds
use Rattle.mds_policy.specs.Policy.{Policy}
use Rattle.mds_geography.specs.Geography.{Geography}
use Rattle.mds_catalog.specs.Publication.{Publication, is_among}
use Rattle.mds_drafts.specs.Drafts.{Drafts, Document, policy, geography, draft_at}
use Rattle.mds_drafts.specs.Named.{Named, read_publish_list}
use Rattle.mds_request.specs.Configuration.{Configuration}
use Rattle.mds_request.specs.Call.{call_of}
use Rattle.mds_request.specs.Request.{Request}
use Rattle.mds_request.specs.declared.call.AuthorCall.TheVariants.{PutDraft, DropDraft, Publish}
use Rattle.mds_request.specs.declared.call.Call.{Call}
use Rattle.mds_request.specs.declared.call.Call.TheVariants.{Author}
use Rattle.mds_request.specs.declared.code.Code.{Code}
use Rattle.mds_machine.specs.Author.{document_of}
use Rattle.mds_machine.specs.Step.{Exchange}

abbrev pub is_same_kind : DraftKind → DraftKind → Bool
is_same_kind kinds.Policy kinds.Policy = true
is_same_kind kinds.Geography kinds.Geography = true
is_same_kind kind other = false

-- the identifiers of a kind in a publish request
abbrev pub named_ids : DraftKind → Named → List (List ℕ)
named_ids kinds.Policy named = named.policies
named_ids kinds.Geography named = named.geographies

-- What a call with this body makes of the draft of a kind and an identifier, if anything: a document, which is put, or
-- none, because it is dropped or published.
abbrev pub fate_by : Result Call Code → List ℕ → DraftKind → List ℕ → Option (Option Document)
fate_by (Ok (Author (PutDraft of named))) body kind id =
    if is_same_kind kind of && bytes_eq named id then option_map Some (result_ok (document_of of body)) else None
fate_by (Ok (Author (DropDraft of named))) body kind id =
    if is_same_kind kind of && bytes_eq named id then Some None else None
fate_by (Ok (Author Publish)) body kind id =
    option_and_then (λ named. if is_among (named_ids kind named) id then Some None else None) (result_ok (read_publish_list body))
fate_by other body kind id = None

-- what an exchange makes of the draft of a kind and an identifier: nothing, unless its reply is a success
abbrev pub fate_in : Configuration → DraftKind → List ℕ → Exchange → Option (Option Document)
fate_in configuration kind id e =
    if e.reply.status == 200 then fate_by (call_of configuration e.request) e.request.body kind id else None

-- The draft of a kind and an identifier after a history that began with these drafts: what the last exchange that
-- concerns it made of it, or the initial draft. It is the last document that was put with success, unless a drop or a
-- publication of it came afterwards.
abbrev pub draft_after : Configuration → Drafts → List Exchange → DraftKind → List ℕ → Option Document
draft_after configuration first history kind id =
    get_or (filter_map (fate_in configuration kind id) (reverse history)) 0 (draft_at first kind id)

abbrev pub as_policy : Option Document → Option Policy
as_policy (Some (policy d)) = Some d
as_policy other = None

abbrev pub as_geography : Option Document → Option Geography
as_geography (Some (geography d)) = Some d
as_geography other = None

-- the drafts with the identifiers of a publish request, in the order of its lists, and the policies that it withdraws
abbrev pub publication_named : (DraftKind → List ℕ → Option Document) → ℕ → Named → Publication
publication_named held moment named =
    record {
      moment = moment;
      geographies = filter_map (λ id. as_geography (held kinds.Geography id)) named.geographies;
      policies = filter_map (λ id. as_policy (held kinds.Policy id)) named.policies;
      withdrawn = named.withdraw;
    }

-- the publication of a call, by the drafts at that time: a publish request makes one, and no other call does
abbrev pub published_by : Result Call Code → (DraftKind → List ℕ → Option Document) → Request → Option Publication
published_by (Ok (Author Publish)) held request =
    option_map (publication_named held request.at) (result_ok (read_publish_list request.body))
published_by other held request = None

-- the publication of an exchange, by the drafts just before it
abbrev pub published_in : Configuration → (DraftKind → List ℕ → Option Document) → Exchange → Option Publication
published_in configuration held e =
    if e.reply.status == 200 then published_by (call_of configuration e.request) held e.request else None

-- each element of a list, with those before it; `before` comes before the list
abbrev pub preceded : {A : Type 0} → List A → List A → List (List A × A)
preceded before [] = []
preceded before (a ∷ more) = (before, a) ∷ preceded (before ++ a ∷ []) more

-- The publications of a history, in order: one for each publish request with a successful reply, at its moment, with
-- the documents that were drafts just before it.
abbrev pub publications_after : Configuration → Drafts → List Exchange → List Publication
publications_after configuration first history =
    filter_map (λ e. published_in configuration (draft_after configuration first e.0) e.1) (preceded [] history)
