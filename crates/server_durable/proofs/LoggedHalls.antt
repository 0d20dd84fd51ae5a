-- What a hall did, by the lists of turns of its room and its desks.
use mathlib.Core.List.{IsPrefix}
use Rattle.std.proofs.Common.{◌≡◌, ◌==◌, ◌<◌, ℕ, Bool, true, false, cond, List, [], ◌∷◌, ◌++◌, length, map, slice_get, Option, Some, None, Result, Ok, Err, inl, inr, refl, sym, ap, subst, ◌∙◌, arith}
use Rattle.std.specs.Prelude.{◌&&◌}
use Rattle.std.proofs.lemmas.List.{length-map}
use Rattle.std.proofs.lemmas.Option.{slice_get-get_or, slice_get_within}
use Rattle.journal_commit.specs.Clients.{of_client}
use Rattle.journal_entry.specs.Entries.{entry_text}
use Rattle.journal_laws.specs.Persisted.{is_kept, kept, may_change, requests_in}
use Rattle.journal_laws.specs.Servers.{kept_turns}
use Rattle.journal_recovery.specs.Laws.{GoesOn, IsServerOf}
use Rattle.journal_recovery.specs.Recovery.{Server}
use Rattle.journal_recovery.proofs.Lists.{both}
use Rattle.mds_catalog.specs.Publication.{Publication}
use Rattle.mds_desk.specs.Desk.{DeskState, IsSameDesk, new_desk}
use Rattle.mds_desk.specs.Laws.{Event, answered, ran, learnt, Becomes, asked_in, told_in}
use Rattle.mds_desk.specs.Room.{RoomState, held_in}
use Rattle.mds_desk.proofs.Joining.{leads}
use Rattle.mds_drafts.specs.Drafts.{Drafts}
use Rattle.mds_fleet.specs.Books.{Rows}
use Rattle.mds_machine.specs.Desks.{AreTurns, refusal_of}
use Rattle.mds_machine.specs.Fronts.{Turn, last_front}
use Rattle.mds_machine.specs.Fronts.{requests_in as turn_requests, replies_in as turn_replies}
use Rattle.mds_machine.specs.OneHistory.{exchanges_in as turn_exchanges}
use Rattle.mds_machine.specs.Room.{AreRoomTurns, IsRoomTurn, authors_in, is_authors, room_does}
use Rattle.mds_machine.specs.Answer.{settled}
use Rattle.mds_machine.specs.Step.{Exchange}
use Rattle.mds_machine.proofs.Views.{prefix_on}
use Rattle.mds_request.specs.Call.{call_of}
use Rattle.mds_request.specs.Code.{status_of}
use Rattle.mds_request.specs.Configuration.{Configuration, Operator}
use Rattle.mds_request.specs.Reply.{Reply, refused}
use Rattle.mds_request.specs.Request.{Request}
use Rattle.mds_request.specs.declared.code.Code.{Code}
use Rattle.mds_request.specs.declared.call.Call.{Call}
use Rattle.mds_request.specs.declared.config.Actor.TheVariants.{Author, Operator as OperatorAt}
use Rattle.server_admission.specs.Actor.{index_of}
use Rattle.server_state.specs.RoomTurns.{room_items, room_opened_as}
use Rattle.server_state.specs.TurnItem.{TurnItem, Opened, OpenedRoom}
use Rattle.server_state.specs.TurnList.{items_of, opened_as}
use Rattle.server_durable.specs.Journals.{HallsGoOn, IsLoggedDesk, IsLoggedHall, IsLogOf}
use Rattle.server_durable.specs.Logged.{exchanges_in}
use Rattle.server_durable.specs.Many.{AreRecordsOf, exchanges}
use Rattle.server_durable.specs.Owners.{client_in}
use Rattle.server_durable.proofs.Journals.{logs_are_journals}
use Rattle.server_durable.proofs.LoggedEntries.{entries_of}

-- ---- a list begins with what was opened

desk_opened : (d first : DeskState) (items more : List TurnItem) → IsPrefix (opened_as d) items → items ≡ opened_as first ++ more
    → (first.known ≡ d.known) × (first.rows ≡ d.rows)
desk_opened d first items more pre is =
    let same : Opened d.known d.rows ∷ pre.0 ≡ Opened first.known first.rows ∷ more = pre.1 ∙ is in (cc, cc)

room_opened : (held first : Drafts × List Publication) (items more : List TurnItem) → IsPrefix (room_opened_as held) items
    → items ≡ room_opened_as first ++ more → first ≡ held
room_opened held first items more pre is =
    let same : OpenedRoom held.0 held.1 ∷ pre.0 ≡ OpenedRoom first.0 first.1 ∷ more = pre.1 ∙ is in
    let drafts : first.0 ≡ held.0 = cc in
    let published : first.1 ≡ held.1 = cc in
    both first.0 held.0 first.1 held.1 drafts published

-- ---- the exchanges of turns

as_exchanges : (turns : List Turn) → turn_exchanges turns ≡ exchanges (turn_requests turns) (turn_replies turns)
as_exchanges [] = refl
as_exchanges (turn ∷ turns) = ap (λ (xs : List Exchange). record { request = turn.request; reply = turn.reply } ∷ xs) (as_exchanges turns)

exchanges_more : (requests more : List Request) (replies others : List Reply) → length requests ≡ length replies
    → exchanges (requests ++ more) (replies ++ others) ≡ exchanges requests replies ++ exchanges more others
exchanges_more [] more [] others long = refl
exchanges_more [] more (reply ∷ replies) others long = absurd (omega (arith, long))
exchanges_more (request ∷ requests) more [] others long = absurd (omega (arith, long))
exchanges_more (request ∷ requests) more (reply ∷ replies) others long =
    ap (λ (xs : List Exchange). record { request = request; reply = reply } ∷ xs) (exchanges_more requests more replies others (omega (arith, long)))

found_on : (operator : Operator) (d between : DeskState) → IsSameDesk d between → slice_get d.configuration.operators d.place ≡ Some operator
    → slice_get between.configuration.operators between.place ≡ Some operator
found_on operator d between same found =
    ap (λ c. slice_get c.operators between.place) same.configuration ∙ ap (slice_get d.configuration.operators) same.place ∙ found

-- those of the calls on a desk are those of its turns among them
called_exchanges : (operator : Operator) (d : DeskState) (events : List Event) (next : DeskState) → slice_get d.configuration.operators d.place ≡ Some operator
    → Becomes d events next → exchanges (asked_in events) (told_in events) ≡ exchanges_in (items_of events)
called_exchanges operator d [] next found is = refl
called_exchanges operator d (answered request reply ∷ events) next found (between, takes, rest) =
    ap (λ (xs : List Exchange). record { request = request; reply = reply } ∷ xs)
    (called_exchanges operator between events next (found_on operator d between takes.same found) rest)
called_exchanges operator d (ran requests replies ∷ events) next found (between, takes, rest) =
    let run = takes.run operator found in
    let long : length requests ≡ length replies =
    sym (ap length run.asks) ∙ length-map run.turns (λ turn. turn.request) ∙ sym (length-map run.turns (λ turn. turn.reply)) ∙ ap length run.tells in
    exchanges_more requests (asked_in events) replies (told_in events) long
    ∙ ap (λ (xs : List Exchange). exchanges requests replies ++ xs) (called_exchanges operator between events next (found_on operator d between takes.same found) rest)
called_exchanges operator d (learnt list ∷ events) next found (between, learns, rest) =
    called_exchanges operator between events next (found_on operator d between learns.same found) rest

module _ (configuration : Configuration) where
  kept_one : (b : Bool) (turn : Turn) (turns : List Turn) (history : List Exchange) → turn_requests turns ≡ requests_in history
      → turn_requests (cond b (turn ∷ turns) turns) ≡ requests_in (cond b (record { request = turn.request; reply = turn.reply } ∷ history) history)
  kept_one true turn turns history same = ap (λ (rs : List Request). turn.request ∷ rs) same
  kept_one false turn turns history same = same

  kept_requests : (turns : List Turn) → turn_requests (kept_turns configuration turns) ≡ requests_in (kept configuration (turn_exchanges turns))
  kept_requests [] = refl
  kept_requests (turn ∷ turns) =
      kept_one (is_kept configuration (record { request = turn.request; reply = turn.reply })) turn (kept_turns configuration turns)
      (kept configuration (turn_exchanges turns)) (kept_requests turns)

  -- ---- the turns of a desk

  record DeskTurns (place : ℕ) (operator : Operator) (d after : DeskState) (items : List TurnItem) (texts : List (List ℕ)) : Type 0 where
    turns : List Turn
    are : AreTurns configuration place operator d.known d.rows turns after.rows
    last : IsPrefix (last_front d.known turns) after.known
    same : turn_exchanges turns ≡ exchanges_in items
    records : AreRecordsOf configuration (turn_requests (kept_turns configuration turns)) texts

  desk_turns : (place : ℕ) (operator : Operator) (d after : DeskState) (items : List TurnItem) (texts : List (List ℕ))
      → slice_get configuration.operators place ≡ Some operator → IsLoggedDesk configuration place d after items texts
      → DeskTurns place operator d after items (of_client (client_in configuration) (index_of (OperatorAt place)) texts)
  desk_turns place operator d after items texts is desk =
      let own = desk.turns in
      let first = own.first in
      let here = own.is_its in
      let begun = desk_opened d first items (items_of own.events) desk.opened own.items_are in
      let found : slice_get first.configuration.operators first.place ≡ Some operator =
      ap (λ (c : Configuration). slice_get c.operators first.place) here.configured ∙ ap (slice_get configuration.operators) here.placed ∙ is in
      let led = leads operator first own.events after found own.becomes in
      let placed : AreTurns configuration place operator first.known first.rows led.turns after.rows =
      subst (λ (c : Configuration). AreTurns c place operator first.known first.rows led.turns after.rows) here.configured
      (subst (λ (p : ℕ). AreTurns first.configuration p operator first.known first.rows led.turns after.rows) here.placed led.are) in
      let known : AreTurns configuration place operator d.known first.rows led.turns after.rows =
      subst (λ (k : List Publication). AreTurns configuration place operator k first.rows led.turns after.rows) begun.0 placed in
      let all : turn_exchanges led.turns ≡ exchanges_in items =
      as_exchanges led.turns
      ∙ ap (λ (rs : List Request). exchanges rs (turn_replies led.turns)) led.asks
      ∙ ap (exchanges (asked_in own.events)) led.tells
      ∙ called_exchanges operator first own.events after found own.becomes
      ∙ sym (ap exchanges_in own.items_are) in
      record {
        turns = led.turns;
        are = subst (λ (rows : Rows). AreTurns configuration place operator d.known rows led.turns after.rows) begun.1 known;
        last = subst (λ (k : List Publication). IsPrefix (last_front k led.turns) after.known) begun.0 led.last;
        same = all;
        records = subst (λ (rs : List Request). AreRecordsOf configuration rs (of_client (client_in configuration) (index_of (OperatorAt place)) texts))
            (sym (kept_requests led.turns ∙ ap (λ (h : List Exchange). requests_in (kept configuration h)) all)) desk.logged;
      }

  -- ---- the turns of the room

  history_of : (history : List Exchange) → exchanges_in (room_items history) ≡ history
  history_of [] = refl
  history_of (e ∷ history) = ap (λ (xs : List Exchange). e ∷ xs) (history_of history)

  -- what the room keeps is the author's
  refused_change : (called : Result Call Code) → may_change called ≡ true → (status_of (refusal_of called) == 200) ≡ false
  refused_change (Ok call) is = refl
  refused_change (Err code) is = absurd cc

  refused_if : (held : Drafts × List Publication) (e : Exchange) (b : Bool) → is_authors configuration e.request ≡ b
      → e.reply ≡ (settled held (room_does configuration held e.request)).0 → may_change (call_of configuration e.request) ≡ true
      → (e.reply.status == 200) ≡ true → b ≡ true
  refused_if held e true authors is may done = refl
  refused_if held e false authors is may done =
      let no : e.reply ≡ refused (refusal_of (call_of configuration e.request)) = is ∙ rw authors refl in
      let bad : (e.reply.status == 200) ≡ false =
      ap (λ (r : Reply). r.status == 200) no ∙ refused_change (call_of configuration e.request) may in
      absurd (let both_ways = sym done ∙ bad in cc)

  first_true : (a b : Bool) → (a && b) ≡ true → a ≡ true
  first_true true b is = refl
  first_true false b is = absurd cc

  second_true : (a b : Bool) → (a && b) ≡ true → b ≡ true
  second_true true b is = is
  second_true false b is = absurd cc

  kept_own : (held after : Drafts × List Publication) (e : Exchange) → IsRoomTurn configuration held e.request e.reply after
      → is_kept configuration e ≡ true → is_authors configuration e.request ≡ true
  kept_own held after e turn keeps =
      let may = first_true (may_change (call_of configuration e.request)) (e.reply.status == 200) keeps in
      let done = second_true (may_change (call_of configuration e.request)) (e.reply.status == 200) keeps in
      elim turn [
        | inl a ↦ refused_if held e (is_authors configuration e.request) refl a.0 may done
        | inr a ↦ absurd (let both_ways = sym done ∙ ap (λ (r : Reply). r.status == 200) a.1 in cc)
      ]

  one_kept : (e : Exchange) (own keeps : Bool) (history authors : List Exchange) → is_authors configuration e.request ≡ own → is_kept configuration e ≡ keeps
      → (keeps ≡ true → own ≡ true) → kept configuration authors ≡ kept configuration history
      → kept configuration (cond own (e ∷ authors) authors) ≡ cond keeps (e ∷ kept configuration history) (kept configuration history)
  one_kept e true keeps history authors whose is only same =
      ap (λ (b : Bool). cond b (e ∷ kept configuration authors) (kept configuration authors)) is
      ∙ ap (λ (h : List Exchange). cond keeps (e ∷ h) h) same
  one_kept e false true history authors whose is only same = absurd (let no = only refl in cc)
  one_kept e false false history authors whose is only same = same

  kept_are_authors : (held after : Drafts × List Publication) (history : List Exchange) → AreRoomTurns configuration held history after
      → kept configuration (authors_in configuration history) ≡ kept configuration history
  kept_are_authors held after [] are = refl
  kept_are_authors held after (e ∷ history) (between, turn, rest) =
      one_kept e (is_authors configuration e.request) (is_kept configuration e) history (authors_in configuration history) refl refl
      (kept_own held between e turn) (kept_are_authors between after history rest)

module _ (configuration : Configuration) (s : Server) (r : RoomState) (room : List TurnItem) (desks : ℕ → DeskState) (items : ℕ → List TurnItem)
    (texts : List (List ℕ)) (served : IsServerOf configuration s) (hall : IsLoggedHall configuration s r room desks items texts) where
  -- the turns of the desk at a place
  TurnsAt : ℕ → List Turn → Type 0
  TurnsAt place turns =
      (operator : Operator) → slice_get configuration.operators place ≡ Some operator
      → ((d : DeskState) → slice_get s.desks place ≡ Some d
      → (rows : Rows) × AreTurns configuration place operator d.known d.rows turns rows × IsPrefix (last_front d.known turns) r.publications)
      × (turn_exchanges turns ≡ exchanges_in (items place))
      × AreRecordsOf configuration (turn_requests (kept_turns configuration turns)) (of_client (client_in configuration) (index_of (OperatorAt place)) texts)

  -- each operator has a desk
  none_lacks : (place : ℕ) (operator : Operator) → slice_get configuration.operators place ≡ Some operator → slice_get s.desks place ≡ None → ⊥
  none_lacks place operator is none =
      let within : place < length s.desks = subst (λ (n : ℕ). place < n) (sym served.long) (slice_get_within configuration.operators place operator is) in
      let there = sym none ∙ slice_get-get_or s.desks place (new_desk configuration place) within in
      cc

  turns_at : (place : ℕ) (o : Option Operator) (found : Option DeskState) → slice_get configuration.operators place ≡ o → slice_get s.desks place ≡ found
      → (turns : List Turn) × TurnsAt place turns
  unfolding TurnsAt
  turns_at place None found none there = ([], λ operator is. absurd (let no = sym none ∙ is in cc))
  turns_at place (Some operator) None is none = absurd (none_lacks place operator is none)
  turns_at place (Some operator) (Some d) is there =
      let own = hall.each place operator d is there in
      let it = desk_turns configuration place operator d (desks place) (items place) texts is own.0 in (
        it.turns,
        λ other found.
            let same : operator ≡ other = let all = sym is ∙ found in cc in (
              λ desk here.
                  let the_desk : d ≡ desk = let all = sym there ∙ here in cc in (
                    (desks place).rows,
                    subst (λ (o : Operator). AreTurns configuration place o desk.known desk.rows it.turns (desks place).rows) same
                        (subst (λ (x : DeskState). AreTurns configuration place operator x.known x.rows it.turns (desks place).rows) the_desk it.are),
                    prefix_on (last_front desk.known it.turns) (desks place).known r.publications
                        (subst (λ (x : DeskState). IsPrefix (last_front x.known it.turns) (desks place).known) the_desk it.last) own.1,
                  ),
              it.same,
              it.records,
            ),
      )

  all_turns : (place : ℕ) → (turns : List Turn) × TurnsAt place turns
  all_turns place = turns_at place (slice_get configuration.operators place) (slice_get s.desks place) refl refl

  goes_on : GoesOn configuration s (exchanges_in room) r.publications (λ place. (all_turns place).0)
  unfolding TurnsAt
  goes_on =
      let own = hall.turns in
      let begun : own.opened ≡ held_in s.room = room_opened (held_in s.room) own.opened room (room_items own.history) hall.opened own.items_are in
      let same : exchanges_in room ≡ own.history = ap exchanges_in own.items_are ∙ history_of configuration own.history in
      record {
        drafts = r.drafts;
        room = subst (λ (h : List Exchange). AreRoomTurns configuration (held_in s.room) h (held_in r)) (sym same)
            (subst (λ (h : Drafts × List Publication). AreRoomTurns configuration h own.history (held_in r)) begun own.turns);
        desks = λ place operator d is there. ((all_turns place).1 operator is).0 d there;
      }

  log_of : IsLogOf configuration texts (exchanges_in room) (λ place. (all_turns place).0)
  unfolding TurnsAt
  log_of =
      let own = hall.turns in
      let same : exchanges_in room ≡ own.history = ap exchanges_in own.items_are ∙ history_of configuration own.history in
      let are : AreRoomTurns configuration own.opened (exchanges_in room) (held_in r) =
      subst (λ (h : List Exchange). AreRoomTurns configuration own.opened h (held_in r)) (sym same) own.turns in
      record {
        author = subst (λ (h : List Exchange). AreRecordsOf configuration (requests_in h) (of_client (client_in configuration) (index_of Author) texts))
            (sym (kept_are_authors configuration own.opened (held_in r) (exchanges_in room) are)) hall.logged;
        operators = λ place operator is. ((all_turns place).1 operator is).2;
      }

pub halls_go_on : HallsGoOn
unfolding TurnsAt
halls_go_on configuration s r room desks items texts tells served hall =
    let read = entries_of configuration tells s r room desks items texts served hall in
    let turns : ℕ → List Turn = λ place. (all_turns configuration s r room desks items texts served hall place).0 in
    let log : IsLogOf configuration (map entry_text read.0) (exchanges_in room) turns =
    subst (λ (ts : List (List ℕ)). IsLogOf configuration ts (exchanges_in room) turns) read.1.spelled
    (log_of configuration s r room desks items texts served hall) in (
      read.0,
      turns,
      read.1,
      λ place operator is. ((all_turns configuration s r room desks items texts served hall place).1 operator is).1,
      goes_on configuration s r room desks items texts served hall,
      logs_are_journals configuration read.0 (exchanges_in room) turns tells read.1.each log,
    )
