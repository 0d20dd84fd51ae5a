-- The order in which drafts are sent.
use Rattle.std.specs.Prelude.{◌≡◌, ℕ, List, [], ◌∷◌, Bool, true, false, not, bytes_eq, position, slice_get, Option, Some, None}
use Rattle.std.specs.List.{list_any, remove}
use Rattle.mds_text.specs.declared.draft_kind.DraftKind.{DraftKind}
use Rattle.mds_text.specs.declared.draft_kind.DraftKind.TheVariants.{Policy, Geography}
use Rattle.cli_documents.specs.declared.drafting.ImportDraft.{ImportDraft}

-- a policy waits for each geography, and for the policies that it supersedes
abbrev pub waits_by : DraftKind → DraftKind → Bool → Bool
waits_by Geography other named = false
waits_by Policy Geography named = true
waits_by Policy Policy named = named

abbrev pub waits_for : ImportDraft → ImportDraft → Bool
waits_for draft other = waits_by draft.kind other.kind (list_any (bytes_eq other.id) draft.predecessors.items)

-- a draft waits for one of these
abbrev pub waits : List ImportDraft → ImportDraft → Bool
waits left draft = list_any (waits_for draft) left

abbrev pub or_first : Option ℕ → ℕ
or_first None = 0
or_first (Some place) = place

-- the index of the next of those that are left: the first that waits for none of them, or the first of all where each
-- waits
abbrev pub next_place : List ImportDraft → ℕ
next_place left = or_first (position (λ draft. not (waits left draft)) left)

-- the second list has the drafts of the first, each of them the next of those that are left
abbrev pub IsInTurn : List ImportDraft → List ImportDraft → Type 0
IsInTurn left [] = left ≡ []
IsInTurn left (draft ∷ later) = (slice_get left (next_place left) ≡ Some draft) × IsInTurn (remove left (next_place left)) later
