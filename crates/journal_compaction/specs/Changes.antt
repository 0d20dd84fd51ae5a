-- A city's journal in the course of time: entries are appended, and its first entries compacted, any number of times.
use Rattle.std.specs.Prelude.{ℕ, List, [], ◌∷◌, ◌++◌, take, drop}
use Rattle.mds_request.specs.Configuration.{Configuration}
use Rattle.journal_entry.specs.Entries.{Entry}
use Rattle.journal_compaction.specs.Compacting.{thinned}

-- one change of a journal: an entry is appended, or so many of its first entries are compacted
pub data JournalChange : Type 0 where
  append : Entry → JournalChange
  compact : ℕ → JournalChange

-- the entries after a change
abbrev pub after_change : Configuration → List Entry → JournalChange → List Entry
after_change configuration entries (append e) = entries ++ e ∷ []
after_change configuration entries (compact n) = thinned configuration (take n entries) ++ drop n entries

-- the entries after changes, one after another
abbrev pub journal_after : Configuration → List Entry → List JournalChange → List Entry
journal_after configuration entries [] = entries
journal_after configuration entries (change ∷ changes) = journal_after configuration (after_change configuration entries change) changes

-- all entries that were appended
abbrev pub appended_entries : List JournalChange → List Entry
appended_entries [] = []
appended_entries (append e ∷ changes) = e ∷ appended_entries changes
appended_entries (compact n ∷ changes) = appended_entries changes
