-- What a journal's file has that was exchanged for compacted ones, and the one server that continues over a restart from
-- it. A premise is that there is no checksum collision among the lists through which the file leads to all that was
-- appended.
use Rattle.std.specs.Prelude.{◌≡◌, ℕ, false, List, [], ◌∷◌, ◌++◌, map, Ok}
use Rattle.std.specs.List.{AllByRecursion}
use Rattle.mds_request.specs.Configuration.{Configuration, has_alike, read_configuration}
use Rattle.journal_entry.specs.Entries.{Entry, IsEntry, entry_text}
use Rattle.journal_recovery.specs.Laws.{IsOneServerFrom, new_server}
use Rattle.journal_recovery.specs.Recovery.{AreAnswered, Server}
use Rattle.journal_swap.specs.Leading.{HasNoCollision, Leads}
use Rattle.journal_compaction.specs.Alike.{IsCompactedBy}
use Rattle.journal_compaction.specs.Changes.{JournalChange, appended_entries, journal_after}
use Rattle.journal_compaction.specs.Compaction.{IsJournal}

-- What a file has leads to this list, by compactions of the configuration of a text, without a checksum collision.
pub record LeadsTo (text : List ℕ) (held last : List (List ℕ)) : Type 0 where
  pub leads : Leads (IsCompactedBy text) held last
  pub apart : HasNoCollision (IsCompactedBy text) held last leads

-- Where a journal was appended to and compacted, further entries were appended, and its file leads to all that: what the
-- file has is the journal after further changes, by which just these entries were appended.
abbrev pub ExchangedAreCompacted : Type 0
ExchangedAreCompacted =
    (text : List ℕ) (configuration : Configuration) (held : List (List ℕ)) (head : List ℕ) (changes : List JournalChange) (more : List Entry)
    → read_configuration text ≡ Ok configuration → AllByRecursion IsEntry (journal_after configuration [] changes ++ more)
    → LeadsTo text held (head ∷ map entry_text (journal_after configuration [] changes ++ more))
    → (further : List JournalChange) × (appended_entries further ≡ appended_entries changes ++ more)
    × IsJournal held head (journal_after configuration [] further)
    × AllByRecursion IsEntry (journal_after configuration [] further)

-- A server that replays what is read of such a file continues the one server whose journal are all entries that were ever
-- appended.
abbrev pub GoesOnFromExchanged : Type 0
GoesOnFromExchanged =
    (text : List ℕ) (configuration : Configuration) (held : List (List ℕ)) (head : List ℕ) (changes : List JournalChange)
    (more read : List Entry) (s : Server)
    → read_configuration text ≡ Ok configuration → has_alike configuration ≡ false
    → AllByRecursion IsEntry (journal_after configuration [] changes ++ more)
    → LeadsTo text held (head ∷ map entry_text (journal_after configuration [] changes ++ more))
    → IsJournal held head read → AllByRecursion IsEntry read → AreAnswered configuration read (new_server configuration) s
    → IsOneServerFrom configuration (appended_entries changes ++ more) s
