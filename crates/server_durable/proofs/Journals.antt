-- A log whose records are a journal of what was done.
use Rattle.std.proofs.Common.{◌≡◌, ◌==◌, ◌<◌, ◌≤◌, ◌+◌, ◌^◌, ℕ, Bool, true, false, cond, List, [], ◌∷◌, ◌++◌, length, map, filter, min, position, slice_get, Option, Some, None, option_map, option_to_list, refl, sym, ap, subst, ◌∙◌, append_assoc, arith}
use Rattle.std.specs.List.{AllByRecursion}
use Rattle.std.proofs.lemmas.Bool.Decides.{nat_tests}
use Rattle.std.proofs.lemmas.List.{map-append}
use Rattle.std.proofs.lemmas.Option.{slice_get_within}
use Rattle.std.proofs.lemmas.List.Elements.{filter-append}
use Rattle.std.proofs.lemmas.List.Quantifiers.{position-Some}
use Rattle.journal_commit.specs.Clients.{of_client}
use Rattle.journal_entry.specs.Entries.{Entry, IsClient, IsEntry, entry_text, fields_text}
use Rattle.journal_entry.specs.Requests.{actor_by, asked_by, client_at, has_id, request_by}
use Rattle.journal_entry.specs.declared.entry.EntryClient.{EntryClient}
use Rattle.journal_entry.specs.declared.entry.EntryClient.TheVariants.{Author as TheAuthor, Operator as OperatorBy}
use Rattle.journal_entry.specs.declared.entry.TheConstants.{ENTRY, MOST_TARGET}
use Rattle.mds_text.specs.Fields.{last_moment}
use Rattle.journal_entry.proofs.Asked.{reads_the_request}
use Rattle.journal_entry.proofs.Spelled.{same_entry, same_fields, same_head}
use Rattle.journal_laws.specs.Persisted.{is_kept, kept, requests_in}
use Rattle.journal_laws.specs.Servers.{kept_turns}
use Rattle.journal_recovery.specs.Laws.{is_actor, requests_by}
use Rattle.mds_machine.specs.Fronts.{Turn}
use Rattle.mds_machine.specs.Fronts.{requests_in as turn_requests}
use Rattle.mds_machine.specs.Room.{authors_in, is_authors}
use Rattle.mds_machine.specs.Step.{Exchange}
use Rattle.mds_request.specs.Configuration.{Configuration, Operator, actor_of, operator_at}
use Rattle.mds_request.specs.Request.{Request}
use Rattle.mds_request.specs.declared.config.Actor.{Actor}
use Rattle.mds_request.specs.declared.config.Actor.TheVariants.{Author, Operator as OperatorAt, Nobody}
use Rattle.server_admission.specs.Actor.{index_of}
use Rattle.server_durable.specs.Journals.{JournalsGoOn, LogsAreJournals, TellsClients}
use Rattle.server_durable.specs.Many.{AreRecordsOf}
use Rattle.server_durable.specs.Owners.{client_in}
use Rattle.server_durable.specs.Records.{IsRecordOf}
use Rattle.server_durable.proofs.Owning.{reads_clients}

-- ---- the number of a client tells it

-- a client that is one of the first so many
abbrev pub IsFirst : ℕ → Actor → Type 0
IsFirst many Author = Unit {0}
IsFirst many (OperatorAt place) = place < many
IsFirst many Nobody = Unit {0}

numbered : (place many : ℕ) → place < many → many < 2 ^ 62 → min (place + 2) 0xFFFF_FFFF_FFFF_FFFF ≡ place + 2
numbered place many here few = omega arith

index_tells : (many : ℕ) (a who : Actor) → many < 2 ^ 62 → IsFirst many a → IsFirst many who → (index_of a == index_of who) ≡ is_actor who a
index_tells many Author Author few first is = refl
index_tells many Author (OperatorAt place) few first is = rw (numbered place many is few) (grind (arith, nat_tests))
index_tells many Author Nobody few first is = refl
index_tells many (OperatorAt other) Author few first is = rw (numbered other many first few) (grind (arith, nat_tests))
index_tells many (OperatorAt other) (OperatorAt place) few first is =
    rw (numbered other many first few, numbered place many is few) (grind (arith, nat_tests))
index_tells many (OperatorAt other) Nobody few first is = rw (numbered other many first few) (grind (arith, nat_tests))
index_tells many Nobody Author few first is = refl
index_tells many Nobody (OperatorAt place) few first is = rw (numbered place many is few) (grind (arith, nat_tests))
index_tells many Nobody Nobody few first is = refl

-- the client of an entry is one of these
found_first : (operators : List Operator) (id : List ℕ) (found : Option ℕ) → position (has_id id) operators ≡ found → IsFirst (length operators) (operator_at found)
found_first operators id None is = tt
found_first operators id (Some place) is = (position-Some (has_id id) operators place (record { id = []; limit = 0; token = [] }) is).0

pub entry_first : (configuration : Configuration) (client : EntryClient) → IsFirst (length configuration.operators) (actor_by configuration client)
entry_first configuration TheAuthor = tt
entry_first configuration (OperatorBy id) = found_first configuration.operators id (position (has_id id) configuration.operators) refl

-- ---- a payload that is the record of a request reads as it

pub client_of_request : (client : Option EntryClient) (request : Request) (entry : Entry) → option_map (asked_by request) client ≡ Some entry
    → ((c : EntryClient) → client ≡ Some c → IsClient c) → IsClient entry.client
client_of_request None request entry is each = absurd cc
client_of_request (Some c) request entry is each = subst IsClient (cc) (each c refl)

asked_at : (client : Option EntryClient) (request : Request) (entry : Entry) → option_map (asked_by request) client ≡ Some entry
    → (entry.at ≡ request.at) × (entry.target ≡ request.target)
asked_at None request entry is = absurd cc
asked_at (Some c) request entry is = (cc, cc)

module _ (configuration : Configuration) (tells : TellsClients configuration) where
  same_as_read : (request : Request) (e : Entry) → IsEntry e → IsRecordOf configuration request (entry_text e) → request_by configuration e ≡ Some request
  same_as_read request e read is =
      let who = client_at configuration (actor_of configuration request.token) in
      let own : IsClient is.entry.client = client_of_request who request is.entry is.is_its (λ c known. tells.written (actor_of configuration request.token) c known) in
      let here = asked_at who request is.entry is.is_its in
      let fields : fields_text is.entry ≡ fields_text e = sym (same_head ENTRY ENTRY (fields_text e) (fields_text is.entry) is.text_is).1 in
      let same : is.entry ≡ e = same_entry is.entry e (same_fields is.entry e own (subst (λ (n : ℕ). n ≤ last_moment) (sym here.0) is.within.at)
      (subst (λ (t : List ℕ). length t ≤ MOST_TARGET) (sym here.1) is.within.target) read fields) in
      reads_the_request configuration request e tells.alone (is.is_its ∙ ap (λ (x : Entry). Some x) same)

  -- the records of a client are those of the requests that the entries have of it
  module _ (who : Actor) (first : IsFirst (length configuration.operators) who) where
    one_entry : (b : Bool) (e : Entry) (texts : List (List ℕ)) (requests rest : List Request) → IsEntry e
        → AreRecordsOf configuration requests (cond b (entry_text e ∷ texts) texts)
        → ((others : List Request) → AreRecordsOf configuration others texts → rest ≡ others)
        → cond b (option_to_list (request_by configuration e)) [] ++ rest ≡ requests
    one_entry true e texts [] rest read are others = absurd are
    one_entry true e texts (request ∷ requests) rest read are others =
        rw (same_as_read request e read are.0) (ap (λ (rs : List Request). request ∷ rs) (others requests are.1))
    one_entry false e texts requests rest read are others = others requests are

    pub requests_are : (entries : List Entry) (requests : List Request) → AllByRecursion IsEntry entries
        → AreRecordsOf configuration requests (of_client (client_in configuration) (index_of who) (map entry_text entries))
        → requests_by configuration who entries ≡ requests
    requests_are [] [] read are = refl
    requests_are [] (request ∷ requests) read are = absurd are
    requests_are (e ∷ entries) requests read are =
        let number : client_in configuration (entry_text e) ≡ index_of (actor_by configuration e.client) = reads_clients configuration e read.0.client in
        let told : (client_in configuration (entry_text e) == index_of who) ≡ is_actor who (actor_by configuration e.client) =
        ap (λ (n : ℕ). n == index_of who) number
        ∙ index_tells (length configuration.operators) (actor_by configuration e.client) who tells.few (entry_first configuration e.client) first in
        let texts = of_client (client_in configuration) (index_of who) (map entry_text entries) in
        one_entry (is_actor who (actor_by configuration e.client)) e texts requests (requests_by configuration who entries) read.0
        (subst (λ (b : Bool). AreRecordsOf configuration requests (cond b (entry_text e ∷ texts) texts)) told are)
        (λ others its. requests_are entries others read.1 its)

place_first : (operators : List Operator) (place : ℕ) (operator : Operator) → slice_get operators place ≡ Some operator → place < length operators
place_first operators place operator is = slice_get_within operators place operator is

pub logs_are_journals : LogsAreJournals
logs_are_journals configuration entries history turns tells read log =
    record {
      author = requests_are configuration tells Author tt entries (requests_in (kept configuration (authors_in configuration history))) read log.author;
      operators = λ place operator is.
          requests_are configuration tells (OperatorAt place) (place_first configuration.operators place operator is) entries
          (turn_requests (kept_turns configuration (turns place))) read (log.operators place operator is);
    }

-- ---- what was done goes on

requests_more : (configuration : Configuration) (who : Actor) (entries more : List Entry)
    → requests_by configuration who (entries ++ more) ≡ requests_by configuration who entries ++ requests_by configuration who more
requests_more configuration who [] more = refl
requests_more configuration who (e ∷ entries) more =
    let own : List Request = cond (is_actor who (actor_by configuration e.client)) (option_to_list (request_by configuration e)) [] in
    ap (λ (rs : List Request). own ++ rs) (requests_more configuration who entries more)
    ∙ sym (append_assoc own (requests_by configuration who entries) (requests_by configuration who more))

pub journals_go_on : JournalsGoOn
journals_go_on configuration entries more history later turns later_turns journal then =
    let keeps : Exchange → Bool = is_kept configuration in
    let authors : Exchange → Bool = λ e. is_authors configuration e.request in
    let turn_keeps : Turn → Bool = λ turn. is_kept configuration (record { request = turn.request; reply = turn.reply }) in
    record {
      author = requests_more configuration Author entries more
          ∙ ap (λ (rs : List Request). rs ++ requests_by configuration Author more) journal.author
          ∙ ap (λ (rs : List Request). requests_in (kept configuration (authors_in configuration history)) ++ rs) then.author
          ∙ sym (map-append (λ (e : Exchange). e.request) (kept configuration (authors_in configuration history)) (kept configuration (authors_in configuration later)))
          ∙ ap requests_in (sym (filter-append keeps (authors_in configuration history) (authors_in configuration later)))
          ∙ ap (λ (h : List Exchange). requests_in (filter keeps h)) (sym (filter-append authors history later));
      operators = λ place operator is.
          requests_more configuration (OperatorAt place) entries more
          ∙ ap (λ (rs : List Request). rs ++ requests_by configuration (OperatorAt place) more) (journal.operators place operator is)
          ∙ ap (λ (rs : List Request). turn_requests (kept_turns configuration (turns place)) ++ rs) (then.operators place operator is)
          ∙ sym (map-append (λ (t : Turn). t.request) (kept_turns configuration (turns place)) (kept_turns configuration (later_turns place)))
          ∙ ap turn_requests (sym (filter-append turn_keeps (turns place) (later_turns place)));
    }
