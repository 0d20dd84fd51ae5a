-- The names of archived journals, and when one is kept.
use Rattle.std.specs.Prelude.{◌≡◌, ℕ, ◌==◌, List, [], ◌∷◌, ◌++◌, length, drop, map, codes, bytes_eq, if◌then◌else◌, Option, Some, None}
use Rattle.std.specs.Fmt.{decimal}
use Rattle.journal_entry.specs.Entries.{Entry, entry_text}
use Rattle.journal_file.specs.Groups.{listed}
use Rattle.journal_file.specs.Records.{Reads, extent}
use Rattle.journal_folder.specs.declared.archive.JournalSpan.{JournalSpan}
use Rattle.journal_folder.specs.declared.archive.ArchiveSlot.{ArchiveSlot}
use Rattle.journal_folder.specs.declared.archive.ArchiveSlot.TheVariants.{Free, Same, Taken}

-- the moment of the last of these entries, or this one where there is none
abbrev pub last_at : ℕ → List Entry → ℕ
last_at at [] = at
last_at at (e ∷ entries) = last_at e.at entries

-- the moments of the first entry and of the last; none without entries
abbrev pub span_of : List Entry → Option JournalSpan
span_of [] = None
span_of (e ∷ entries) = Some (record { first = e.at; last = last_at e.at entries })

-- behind the first of these payloads, the head, stand entries with this span
abbrev pub IsSpanOf : List (List ℕ) → Option JournalSpan → Type 0
IsSpanOf texts span = (entries : List Entry) × (drop 1 texts ≡ map entry_text entries) × (span ≡ span_of entries)

-- the bytes are whole records to their end, those of a journal with this span
abbrev pub IsSpan : List ℕ → Option JournalSpan → Type 0
IsSpan bytes span = (all : List (List ℕ)) × Reads 0 bytes all × (extent all ≡ length bytes) × IsSpanOf (listed all) span

-- `journal-FIRST-LAST`, in milliseconds since the Unix epoch
abbrev pub span_name : JournalSpan → List ℕ
span_name span = codes "journal-" ++ decimal span.first ++ codes "-" ++ decimal span.last

-- and after that one `journal-FIRST-LAST.1`, `journal-FIRST-LAST.2` and so on
abbrev pub archive_name : JournalSpan → ℕ → List ℕ
archive_name span number = if number == 0 then span_name span else span_name span ++ codes "." ++ decimal number

-- a name is free where nothing has it, or the bytes themselves stand there, or others do
abbrev pub slot_of : Option (List ℕ) → List ℕ → ArchiveSlot
slot_of None bytes = Free
slot_of (Some found) bytes = if bytes_eq found bytes then Same else Taken

-- this is one of a span's names, and under it stand these bytes, where `has` says which names have which
abbrev pub HasName : (List ℕ → List ℕ → Type 0) → List ℕ → JournalSpan → List ℕ → Type 0
HasName has bytes span name = (number : ℕ) × (name ≡ archive_name span number) × has name bytes

-- under this name, one of their span, a journal's bytes are archived; under none, where they have no entries
abbrev pub IsNamed : (List ℕ → List ℕ → Type 0) → List ℕ → Option JournalSpan → Option (List ℕ) → Type 0
IsNamed has bytes None name = name ≡ None
IsNamed has bytes (Some span) None = ⊥
IsNamed has bytes (Some span) (Some name) = HasName has bytes span name

abbrev pub IsArchivedAs : (List ℕ → List ℕ → Type 0) → List ℕ → Option (List ℕ) → Type 0
IsArchivedAs has bytes name = (span : Option JournalSpan) × IsSpan bytes span × IsNamed has bytes span name
