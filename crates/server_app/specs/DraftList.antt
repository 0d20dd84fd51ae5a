-- Which drafts are held.
use Rattle.std.specs.Prelude.{ℕ, List, [], ◌∷◌, ◌++◌, map, codes, Option, Some, None}
use Rattle.std.specs.FinMap.{keys}
use Rattle.mds_text.specs.Tree.{Json, text, object, members_of}
use Rattle.mds_text.specs.declared.draft_kind.DraftKind.{DraftKind}
use Rattle.mds_text.specs.declared.draft_kind.DraftKind.TheVariants as kinds
use Rattle.mds_verdict.specs.Verdict.{printed_id}
use Rattle.mds_drafts.specs.Drafts.{Drafts, Document, policy, geography}
use Rattle.mds_request.specs.Reply.{Reply}
use Rattle.mds_machine.specs.Answer.{told}
use Rattle.mds_machine.specs.Bodies.{list_json}

-- the name of a kind
abbrev pub kind_word : DraftKind → List ℕ
kind_word kinds.Policy = codes "policy"
kind_word kinds.Geography = codes "geography"

-- the identifier of a document that is of this kind
abbrev pub own_id : DraftKind → Document → Option (List ℕ)
own_id kinds.Policy (policy d) = Some d.id
own_id kinds.Geography (geography d) = Some d.id
own_id kind document = None

-- the identifiers of the drafts of a kind, in the order of their bytes
abbrev pub ids_of : Drafts → DraftKind → List (List ℕ)
ids_of drafts kinds.Policy = keys drafts.policies
ids_of drafts kinds.Geography = keys drafts.geographies

-- a draft, by its kind and identifier
abbrev pub listed_json : DraftKind → List ℕ → Json
listed_json kind id = object (members_of ((codes "id", printed_id id) ∷ (codes "kind", text (kind_word kind)) ∷ []))

-- all drafts, policies before geographies
abbrev pub listed : Drafts → List Json
listed drafts = map (listed_json kinds.Policy) (ids_of drafts kinds.Policy) ++ map (listed_json kinds.Geography) (ids_of drafts kinds.Geography)

abbrev pub drafts_reply : Drafts → Reply
drafts_reply drafts = told (object (members_of ((codes "drafts", list_json (listed drafts)) ∷ [])))
