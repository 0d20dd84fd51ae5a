-- Limits on the drafts that are sent, and on what may stand in a request.
use Rattle.std.specs.Prelude.{ℕ, List, length, ◌==◌, Bool, true, false, ◌&&◌, not, nat_le, nat_lt, bytes_eq, if◌then◌else◌, Option, Some, None}
use Rattle.std.specs.List.{list_all, list_any}
use Rattle.mds_text.specs.declared.draft_kind.DraftKind.{DraftKind}
use Rattle.mds_text.specs.declared.draft_kind.DraftKind.TheVariants.{Policy, Geography}
use Rattle.cli_documents.specs.declared.drafting.ImportDraft.{ImportDraft}
use Rattle.cli_transfer.specs.declared.draft_limits.SkipReason.{SkipReason}
use Rattle.cli_transfer.specs.declared.draft_limits.SkipReason.TheVariants.{Long, Twice, Many}
use Rattle.cli_transfer.specs.declared.draft_limits.TheConstants.{MOST_BODY, MOST_DRAFTS}

abbrev pub is_same_kind : DraftKind → DraftKind → Bool
is_same_kind Policy Policy = true
is_same_kind Geography Geography = true
is_same_kind kind other = false

-- two drafts are of one kind and identifier
abbrev pub is_same : ImportDraft → ImportDraft → Bool
is_same draft other = is_same_kind draft.kind other.kind && bytes_eq draft.id other.id

-- why a draft isn't sent after others: its body is longer than the server reads, another of these files' drafts has its
-- kind and identifier, or there are as many as a city may have of both kinds
abbrev pub why_unkept : List ImportDraft → ImportDraft → Option SkipReason
why_unkept drafts draft =
    if nat_lt MOST_BODY (length draft.body.items) then Some Long
    else (if list_any (is_same draft) drafts then Some Twice
    else (if nat_le MOST_DRAFTS (length drafts) then Some Many else None))

-- a word that may stand in the head of a request: printable ASCII without spaces
abbrev pub is_visible_byte : ℕ → Bool
is_visible_byte byte = nat_le 33 byte && nat_le byte 126

abbrev pub is_visible : List ℕ → Bool
is_visible word = not (length word == 0) && list_all is_visible_byte word
