-- What is recorded of the compactions of a city's journal, and which journal tells what stood at a moment.
use Rattle.std.specs.Prelude.{◌≡◌, ◌≢◌, ◌≤◌, ℕ, ◌==◌, ◌&&◌, Bool, true, false, not, nat_lt, nat_eq, List, [], ◌∷◌, ◌++◌, codes, option_map, if◌then◌else◌, Option, Some, None, IfSome}
use Rattle.std.specs.Char.{is_ascii_graphic}
use Rattle.std.specs.Fmt.{decimal}
use Rattle.std.specs.List.{AllByRecursion, list_all, starts_with}
use Rattle.mds_text.specs.Fields.{last_moment}
use Rattle.journal_folder.specs.declared.compactions.Compaction.{Compaction as Lent}
use Rattle.journal_folder.specs.declared.compactions.PastSource.{PastSource}
use Rattle.journal_folder.specs.declared.compactions.PastSource.TheVariants.{Present, Archived, NotKept}

-- A shorter journal took the place of one whose entries have this latest moment, and which was archived under this name,
-- or wasn't archived.
pub record Compaction : Type 0 where
  pub latest : ℕ
  pub archived : Option (List ℕ)

-- the `Compaction` of the code
abbrev pub compaction_of : Lent → Compaction
compaction_of c = record { latest = c.latest; archived = option_map (λ name. name.now) c.archived }

-- which journal tells of a moment: the one that stands in the city's folder; an archived one, by its name and the latest
-- moment of its entries; or none any more
pub data Source : Type 0 where
  present : Source
  archived : (name : List ℕ) → (latest : ℕ) → Source
  not_kept : Source

abbrev pub source_view : PastSource → Source
source_view Present = present
source_view (Archived a) = archived a.name.now a.latest
source_view NotKept = not_kept

-- a journal that was compacted
abbrev pub source_under : ℕ → Option (List ℕ) → Source
source_under latest None = not_kept
source_under latest (Some name) = archived name latest

-- Of these compactions, the earliest first: the journal of the first one that had an entry later than the moment. All
-- that compactions before that one dropped was in front of the moment, as what it has of it is.
abbrev pub source_of : List Compaction → ℕ → Source
source_of [] at = present
source_of (c ∷ compactions) at = if nat_lt at c.latest then source_under c.latest c.archived else source_of compactions at

-- what is recorded first where it isn't known what was dropped of a journal whose entries have this latest moment; nothing
-- where it has no entries
abbrev pub first_compactions : Option ℕ → List Compaction
first_compactions None = []
first_compactions (Some at) = record { latest = at; archived = None } ∷ []

-- the name of an archived journal: it begins as those do, and leads to no other folder
abbrev pub is_name_byte : ℕ → Bool
is_name_byte byte = is_ascii_graphic byte && not (byte == 47)

abbrev pub is_name : List ℕ → Bool
is_name name = starts_with nat_eq name (codes "journal-") && list_all is_name_byte name

abbrev pub IsCompaction : Compaction → Type 0
IsCompaction c = (c.latest ≤ last_moment) × IfSome c.archived (λ name. is_name name ≡ true)

abbrev pub AreCompactions : List Compaction → Type 0
AreCompactions compactions = AllByRecursion IsCompaction compactions

abbrev pub name_text : Option (List ℕ) → List ℕ
name_text None = codes "-"
name_text (Some name) = name

-- `LATEST NAME`, or `LATEST -`
abbrev pub line_of : Compaction → List ℕ
line_of c = decimal c.latest ++ 32 ∷ name_text c.archived

-- the lines, each with a line feed
abbrev pub text_of : List Compaction → List ℕ
text_of [] = []
text_of (c ∷ compactions) = line_of c ++ 10 ∷ text_of compactions

-- what is read of a line: the compaction whose line it is, or none where it is none's
abbrev pub IsLine : List ℕ → Option Compaction → Type 0
IsLine line None = (c : Compaction) → IsCompaction c → line_of c ≢ line
IsLine line (Some c) = IsCompaction c × (line_of c ≡ line)

-- a line's compaction comes behind the others, where it is one's
abbrev pub IsAdded : List ℕ → Bool → List Compaction → List Compaction → Type 0
IsAdded line true before after = (c : Compaction) × IsLine line (Some c) × (after ≡ before ++ c ∷ [])
IsAdded line false before after = IsLine line None

-- what is read of a text
abbrev pub IsText : List ℕ → Option (List Compaction) → Type 0
IsText text None = (compactions : List Compaction) → AreCompactions compactions → text_of compactions ≢ text
IsText text (Some compactions) = AreCompactions compactions × (text_of compactions ≡ text)
