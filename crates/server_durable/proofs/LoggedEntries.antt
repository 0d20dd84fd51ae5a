-- The payloads of a log are the texts of entries.
use Rattle.std.proofs.Common.{◌≡◌, ◌==◌, ◌<◌, ◌≤◌, ℕ, Bool, true, false, cond, List, [], ◌∷◌, length, drop, get_or, Option, Some, None, option_map, refl, sym, ap, subst, ◌∙◌, arith}
use Rattle.std.specs.List.{AllByRecursion}
use Rattle.std.proofs.lemmas.Bool.Decides.{nat_tests}
use Rattle.std.proofs.lemmas.Option.{slice_get-get_or}
use Rattle.journal_commit.specs.Clients.{of_client}
use Rattle.journal_entry.specs.Entries.{Entry, IsEntry, entry_text}
use Rattle.journal_entry.specs.Requests.{actor_by, asked_by, client_at}
use Rattle.journal_entry.specs.declared.entry.EntryClient.{EntryClient}
use Rattle.journal_entry.specs.declared.entry.TheConstants.{MOST_TARGET}
use Rattle.journal_recovery.specs.Laws.{IsServerOf}
use Rattle.journal_recovery.specs.Recovery.{Server}
use Rattle.mds_desk.specs.Desk.{DeskState, new_desk}
use Rattle.mds_desk.specs.Room.{RoomState}
use Rattle.mds_request.specs.Configuration.{Configuration, Operator, actor_of}
use Rattle.mds_request.specs.Request.{Request}
use Rattle.mds_request.specs.declared.call.TheConstants.{MOST_BODY}
use Rattle.mds_request.specs.declared.config.Actor.{Actor}
use Rattle.mds_request.specs.declared.config.Actor.TheVariants.{Author, Nobody, Operator as OperatorAt}
use Rattle.mds_text.specs.Fields.{last_moment}
use Rattle.server_admission.specs.Actor.{index_of}
use Rattle.server_state.specs.TurnItem.{TurnItem}
use Rattle.server_durable.specs.Journals.{IsLoggedHall, ReadsAs, TellsClients}
use Rattle.server_durable.specs.Logged.{logged_in}
use Rattle.server_durable.specs.Many.{AreRecordsOf}
use Rattle.server_durable.specs.Owners.{client_in, named_first}
use Rattle.server_durable.specs.Records.{IsRecordOf}
use Rattle.server_durable.proofs.Journals.{IsFirst, client_of_request, entry_first}

-- the payload is the text of an entry
record IsEntryText (text : List ℕ) : Type 0 where
  entry : Entry
  is_its : text ≡ entry_text entry
  within : IsEntry entry

read_all : (texts : List (List ℕ)) → AllByRecursion IsEntryText texts → (entries : List Entry) × ReadsAs texts entries
read_all [] are = ([], record { spelled = refl; each = tt })
read_all (text ∷ texts) are =
    let rest = read_all texts are.1 in (
      are.0.entry ∷ rest.0,
      record {
        spelled = ap (λ (t : List ℕ). t ∷ texts) are.0.is_its ∙ ap (λ (ts : List (List ℕ)). entry_text are.0.entry ∷ ts) rest.1.spelled;
        each = (are.0.within, rest.1.each);
      },
    )

-- ---- what is said of each client's payloads is said of all

module _ (P : List ℕ → Type 0) (client_of : List ℕ → ℕ) where
  the_first : (b : Bool) (text : List ℕ) (texts : List (List ℕ)) → b ≡ true → AllByRecursion P (cond b (text ∷ texts) texts) → P text
  the_first true text texts is are = are.0
  the_first false text texts is are = absurd cc

  the_rest : (b : Bool) (text : List ℕ) (texts : List (List ℕ)) → AllByRecursion P (cond b (text ∷ texts) texts) → AllByRecursion P texts
  the_rest true text texts are = are.1
  the_rest false text texts are = are

  all_of : (texts : List (List ℕ)) → ((text : List ℕ) → AllByRecursion P (of_client client_of (client_of text) texts)) → AllByRecursion P texts
  all_of [] each = tt
  all_of (text ∷ texts) each =
      let own : (client_of text == client_of text) ≡ true = grind (arith, nat_tests) in (
        the_first (client_of text == client_of text) text (of_client client_of (client_of text) texts) own (each text),
        all_of texts (λ other. the_rest (client_of text == client_of other) text (of_client client_of (client_of other) texts) (each other)),
      )

-- ---- a record is one

asked_parts : (client : Option EntryClient) (request : Request) (entry : Entry) → option_map (asked_by request) client ≡ Some entry
    → (entry.at ≡ request.at) × (entry.target ≡ request.target) × (entry.body ≡ request.body)
asked_parts None request entry is = absurd cc
asked_parts (Some c) request entry is = (cc, cc, cc)

module _ (configuration : Configuration) (tells : TellsClients configuration) where
  record_read : (request : Request) (text : List ℕ) → IsRecordOf configuration request text → IsEntryText text
  record_read request text is =
      let who = client_at configuration (actor_of configuration request.token) in
      let same = asked_parts who request is.entry is.is_its in
      record {
        entry = is.entry;
        is_its = is.text_is;
        within = record {
          client = client_of_request who request is.entry is.is_its (λ c known. tells.written (actor_of configuration request.token) c known);
          at = subst (λ (n : ℕ). n ≤ last_moment) (sym same.0) is.within.at;
          short = record {
            target = subst (λ (t : List ℕ). length t ≤ MOST_TARGET) (sym same.1) is.within.target;
            body = subst (λ (t : List ℕ). length t ≤ MOST_BODY) (sym same.2) is.within.body;
          };
        };
      }

  records_read : (requests : List Request) (texts : List (List ℕ)) → AreRecordsOf configuration requests texts → AllByRecursion IsEntryText texts
  records_read [] [] are = tt
  records_read [] (text ∷ texts) are = absurd are
  records_read (request ∷ requests) [] are = absurd are
  records_read (request ∷ requests) (text ∷ texts) are = (record_read request text are.0, records_read requests texts are.1)

  -- ---- each payload of a hall's log is of the author, of an operator, or of nobody

  module _ (s : Server) (r : RoomState) (room : List TurnItem) (desks : ℕ → DeskState) (items : ℕ → List TurnItem) (texts : List (List ℕ))
      (served : IsServerOf configuration s) (hall : IsLoggedHall configuration s r room desks items texts) where
    of_each : (who : Actor) → IsFirst (length configuration.operators) who → AllByRecursion IsEntryText (of_client (client_in configuration) (index_of who) texts)
    of_each Author first = records_read (logged_in configuration room) (of_client (client_in configuration) (index_of Author) texts) hall.logged
    of_each Nobody first = subst (AllByRecursion IsEntryText) (sym hall.no_others) tt
    of_each (OperatorAt place) first =
        let named : Operator = record { id = []; limit = 0; token = [] } in
        let there : place < length s.desks = subst (λ (n : ℕ). place < n) (sym served.long) first in
        let desk = hall.each place (get_or configuration.operators place named) (get_or s.desks place (new_desk configuration place))
        (slice_get-get_or configuration.operators place named first) (slice_get-get_or s.desks place (new_desk configuration place) there) in
        records_read (logged_in configuration (items place)) (of_client (client_in configuration) (index_of (OperatorAt place)) texts) desk.0.logged

    -- so the log reads as entries
    pub entries_of : (entries : List Entry) × ReadsAs texts entries
    entries_of =
        read_all texts (all_of IsEntryText (client_in configuration) texts (λ text.
        let client = named_first (drop 10 text) in
        of_each (actor_by configuration client) (entry_first configuration client)))
