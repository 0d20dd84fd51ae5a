-- Drafts: the author's documents that aren't published yet, one of each kind for an identifier.
use Rattle.std.specs.Prelude.{◌≡◌, ℕ, List, [], ◌∷◌, Bool, false, nat_lt, if◌then◌else◌, Option, option_map, is_some, Result, Ok, Err, bytes_eq}
use Rattle.std.specs.Ordering.{nat_cmp}
use Rattle.std.specs.declared.cmp.Ordering.{Ordering}
use Rattle.std.specs.Cmp.Lexicographic.{slice_cmp}
use Rattle.std.specs.FinMap.{FinMap, get, insert, remove, len}
use Rattle.mds_policy.specs.Policy.{Policy}
use Rattle.mds_geography.specs.Geography.{Geography}
use Rattle.mds_catalog.specs.Publication.{Publication, policy_ids, geography_ids}
use Rattle.mds_text.specs.declared.draft_kind.DraftKind.{DraftKind}
use Rattle.mds_text.specs.declared.draft_kind.DraftKind.TheVariants as kinds
use Rattle.mds_drafts.specs.declared.drafts.TheConstants.{MOST_DRAFTS}
use Rattle.mds_drafts.specs.declared.drafts.Put.{Put}
use Rattle.mds_drafts.specs.declared.drafts.Put.TheVariants.{New, Replaced}
use Rattle.mds_drafts.specs.declared.drafts.PutFault.{PutFault}
use Rattle.mds_drafts.specs.declared.drafts.PutFault.TheVariants.{DraftsFull, NoMemory}

-- the order of identifiers
abbrev pub id_cmp : List ℕ → List ℕ → Ordering
id_cmp = slice_cmp nat_cmp

pub record Drafts : Type 0 where
  pub policies : FinMap id_cmp Policy
  pub geographies : FinMap id_cmp Geography

-- a document of either kind
pub data Document : Type 0 where
  policy : (document : Policy) → Document
  geography : (document : Geography) → Document

-- a document has a kind and an identifier
abbrev pub is_of : Document → DraftKind → List ℕ → Bool
is_of (policy d) kinds.Policy id = bytes_eq d.id id
is_of (geography d) kinds.Geography id = bytes_eq d.id id
is_of document kind id = false

-- the draft of a kind and an identifier
abbrev pub draft_at : Drafts → DraftKind → List ℕ → Option Document
draft_at drafts kinds.Policy id = option_map policy (get drafts.policies id)
draft_at drafts kinds.Geography id = option_map geography (get drafts.geographies id)

-- there is a draft of a kind and an identifier
abbrev pub has_draft : Drafts → DraftKind → List ℕ → Bool
has_draft drafts kind id = is_some (draft_at drafts kind id)

-- the number of drafts of a kind
abbrev pub count_of : Drafts → DraftKind → ℕ
count_of drafts kinds.Policy = len drafts.policies
count_of drafts kinds.Geography = len drafts.geographies

-- a document's kind and its own identifier
abbrev pub kind_of : Document → DraftKind
kind_of (policy d) = kinds.Policy
kind_of (geography d) = kinds.Geography

abbrev pub id_of : Document → List ℕ
id_of (policy d) = d.id
id_of (geography d) = d.id

-- the drafts with a document put: it replaces any of its kind and identifier
abbrev pub with_draft : Drafts → Document → Drafts
with_draft drafts (policy d) = record { policies = insert drafts.policies d.id d; geographies = drafts.geographies }
with_draft drafts (geography d) = record { policies = drafts.policies; geographies = insert drafts.geographies d.id d }

-- the result of a put: a draft that is there is replaced, a new one needs room
abbrev pub put_answer : Drafts → Document → Result Put PutFault
put_answer drafts document =
    if has_draft drafts (kind_of document) (id_of document) then Ok Replaced
    else if nat_lt (count_of drafts (kind_of document)) MOST_DRAFTS then Ok New
    else Err DraftsFull

-- a result is the defined one; out of memory comes only in place of a new draft
abbrev pub AnswersPut : Result Put PutFault → Result Put PutFault → Type 0
AnswersPut (Err NoMemory) defined = defined ≡ Ok New
AnswersPut answer defined = defined ≡ answer

-- the drafts without the one of a kind and an identifier
abbrev pub without_draft : Drafts → DraftKind → List ℕ → Drafts
without_draft drafts kinds.Policy id = record { policies = remove drafts.policies id; geographies = drafts.geographies }
without_draft drafts kinds.Geography id = record { policies = drafts.policies; geographies = remove drafts.geographies id }

-- a map without some keys
abbrev pub without_keys : {X : Type 0} → FinMap id_cmp X → List (List ℕ) → FinMap id_cmp X
without_keys m [] = m
without_keys m (id ∷ ids) = without_keys (remove m id) ids

-- the drafts without those that a publication has published; a draft with a withdrawn identifier stays
abbrev pub taken_out : Drafts → Publication → Drafts
taken_out drafts p =
    record {
      policies = without_keys drafts.policies (policy_ids p);
      geographies = without_keys drafts.geographies (geography_ids p);
    }
