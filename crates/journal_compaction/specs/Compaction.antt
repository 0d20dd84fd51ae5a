-- When a journal is compacted.
use Rattle.std.specs.Prelude.{◌≡◌, ℕ, List, ◌∷◌, map, length, Ok}
use Rattle.std.specs.List.{AllByRecursion}
use Rattle.mds_request.specs.Configuration.{Configuration, read_configuration}
use Rattle.mds_request.specs.Reply.{Reply}
use Rattle.journal_entry.specs.Entries.{Entry, IsEntry, entry_text}
use Rattle.journal_compaction.specs.Questions.{questions}
use Rattle.journal_compaction.specs.Replies.{AreReplies}
use Rattle.journal_compaction.specs.Compacting.{thinned}
use Rattle.journal_compaction.specs.declared.compaction.Counts.{Counts}

-- the payloads of a journal: a head, and one of each entry
abbrev pub IsJournal : List (List ℕ) → List ℕ → List Entry → Type 0
IsJournal texts head entries = texts ≡ head ∷ map entry_text entries

-- A server that is started from entries and one that is started from the journal of these payloads have the same
-- answers to these questions.
pub record AreAlike (configuration : Configuration) (entries : List Entry) (texts : List (List ℕ)) (asked : List Entry) : Type 0 where
  pub head : List ℕ
  pub back : List Entry
  pub journal : IsJournal texts head back
  pub replies : List Reply
  pub old : AreReplies configuration entries asked replies
  pub new : AreReplies configuration back asked replies

-- The other list is a journal, whose entries are within their limits. The one list is its compacted form: the same head,
-- and the entries that stay. A server that is started from the journal and one that is started from its compacted form
-- have the same answers to the questions of this moment.
pub record IsCompacted (configuration : Configuration) (at : ℕ) (one other : List (List ℕ)) : Type 0 where
  pub head : List ℕ
  pub entries : List Entry
  pub journal : IsJournal other head entries
  pub each : AllByRecursion IsEntry entries
  pub kept : IsJournal one head (thinned configuration entries)
  pub alike : AreAlike configuration entries one (questions configuration at entries)

-- The log may be of what was read back from it, and that is the compacted form of a journal of these payloads, by the
-- configuration of this text.
pub record IsThinned (may_be : List (List ℕ) → Type 0) (text : List ℕ) (at : ℕ) (texts : List (List ℕ)) (counts : Counts) : Type 0 where
  pub configuration : Configuration
  pub read : read_configuration text ≡ Ok configuration
  pub read_back : List (List ℕ)
  pub back : may_be read_back
  pub is : IsCompacted configuration at read_back texts
  pub before : counts.before ≡ length is.entries
  pub after : counts.after ≡ length (thinned configuration is.entries)
