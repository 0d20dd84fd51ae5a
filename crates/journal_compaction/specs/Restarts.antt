-- What is recovered from a compacted journal, and the one server that continues over a restart from it. A premise of most
-- laws is that no two access tokens are equal and no two operators have the same identifier, as in every configuration
-- that is read.
use Rattle.std.specs.Prelude.{◌≡◌, ℕ, false, List, [], reverse}
use Rattle.std.specs.FinMap.{empty}
use Rattle.mds_catalog.specs.Publication.{Publication}
use Rattle.mds_fleet.specs.Books.{Rows}
use Rattle.mds_fleet.specs.History.{row_by}
use Rattle.mds_request.specs.Configuration.{Configuration, Operator, has_alike}
use Rattle.mds_request.specs.declared.config.Actor.TheVariants.{Author, Operator as OperatorAt}
use Rattle.mds_machine.specs.Desks.{AreTurns}
use Rattle.mds_machine.specs.Fronts.{Turn, requests_in}
use Rattle.journal_laws.specs.Servers.{AreServed, kept_turns}
use Rattle.journal_entry.specs.Entries.{Entry}
use Rattle.journal_recovery.specs.Laws.{IsOneServerFrom, LeadsBack, new_server, requests_by}
use Rattle.journal_recovery.specs.Recovery.{AreAnswered, Server}
use Rattle.journal_compaction.specs.declared.kind.Device.{Device}
use Rattle.journal_compaction.specs.Compacting.{thinned}
use Rattle.journal_compaction.specs.Changes.{JournalChange, appended_entries, journal_after}
use Rattle.journal_compaction.specs.Laws.{reports_since}

-- An operator's turns at a desk that had no rows left these rows, and the operator's requests among these entries are
-- those of the turns that are persisted.
pub record ArePersisted (configuration : Configuration) (place : ℕ) (operator : Operator) (entries : List Entry) (turns : List Turn)
    (rows : Rows) : Type 0 where
  pub known : List Publication
  pub are : AreTurns configuration place operator known empty turns rows
  pub persisted : requests_by configuration (OperatorAt place) entries ≡ requests_in (kept_turns configuration turns)

-- A desk that had no rows answered the operator's requests among these entries, each with success, at whatever fronts,
-- and has these rows then.
pub record AreReplayed (configuration : Configuration) (place : ℕ) (operator : Operator) (entries : List Entry) (turns : List Turn)
    (rows : Rows) : Type 0 where
  pub known : List Publication
  pub are : AreTurns configuration place operator known empty turns rows
  pub served : AreServed turns
  pub asked : requests_in turns ≡ requests_by configuration (OperatorAt place) entries

-- The compacted entries, replayed, lead to the rows that the persisted turns had left.
abbrev pub ThinnedDeskIsRecovered : Type 0
ThinnedDeskIsRecovered =
    (configuration : Configuration) (place : ℕ) (operator : Operator) (entries : List Entry) (turns again : List Turn) (left recovered : Rows)
    → has_alike configuration ≡ false
    → ArePersisted configuration place operator entries turns left
    → AreReplayed configuration place operator (thinned configuration entries) again recovered
    → recovered ≡ left

-- So do the entries of a journal that was appended to and compacted any number of times, where the turns are persisted
-- in all entries that were appended.
abbrev pub DeskIsRecoveredFromJournal : Type 0
DeskIsRecoveredFromJournal =
    (configuration : Configuration) (place : ℕ) (operator : Operator) (changes : List JournalChange) (turns again : List Turn) (left recovered : Rows)
    → has_alike configuration ≡ false
    → ArePersisted configuration place operator (appended_entries changes) turns left
    → AreReplayed configuration place operator (journal_after configuration [] changes) again recovered
    → recovered ≡ left

-- Each device's reports in such a journal lead to the same row as those among all entries that were appended.
abbrev pub RowsStayThroughout : Type 0
RowsStayThroughout =
    (configuration : Configuration) (changes : List JournalChange) (device : Device)
    → row_by (reports_since configuration device (reverse (journal_after configuration [] changes)))
    ≡ row_by (reports_since configuration device (reverse (appended_entries changes)))

-- Such a journal has all of the author's requests that were appended, in their order.
abbrev pub AuthorsEntriesStay : Type 0
AuthorsEntriesStay =
    (configuration : Configuration) (changes : List JournalChange)
    → requests_by configuration Author (journal_after configuration [] changes)
    ≡ requests_by configuration Author (appended_entries changes)

-- A new room and new desks that replayed such a journal have the drafts, publications and rows that a server had left
-- of which all appended entries are the journal.
abbrev pub ThinnedLeadsBack : Type 0
ThinnedLeadsBack =
    (configuration : Configuration) (changes : List JournalChange) (s : Server) → has_alike configuration ≡ false
    → AreAnswered configuration (journal_after configuration [] changes) (new_server configuration) s
    → LeadsBack configuration (appended_entries changes) s

-- Over a restart from such a journal there is one server: what was answered before it, where all appended entries are
-- the journal of that, and what is done after it.
abbrev pub GoesOnFromThinned : Type 0
GoesOnFromThinned =
    (configuration : Configuration) (changes : List JournalChange) (s : Server) → has_alike configuration ≡ false
    → AreAnswered configuration (journal_after configuration [] changes) (new_server configuration) s
    → IsOneServerFrom configuration (appended_entries changes) s
