-- The rows that a desk's turns leave, by the kinds of their requests alone.
use Rattle.std.proofs.Common.{◌≡◌, ◌≢◌, ℕ, ◌==◌, ◌&&◌, Bool, true, false, cond, inl, inr, refl, sym, ap, ◌∙◌, arith}
use Rattle.std.proofs.Common.{List, [], ◌∷◌, ◌++◌, reverse, bytes_eq, Option, Some, None, Result, Ok, Err}
use Rattle.std.specs.Prelude.{nat_eq, option_map, option_to_list}
use Rattle.std.specs.FinMap.{get}
use Rattle.std.proofs.lemmas.Bool.{eqb-true}
use Rattle.std.proofs.lemmas.Bool.Decides.{nat_tests}
use Rattle.mds_text.specs.Fault.{Fault}
use Rattle.mds_catalog.specs.Publication.{Publication}
use Rattle.mds_match.specs.Row.{Row}
use Rattle.mds_fleet.specs.Books.{Report as Told, Rows, row_after}
use Rattle.mds_fleet.specs.History.{row_by}
use Rattle.mds_fleet.specs.Reading.{read_report}
use Rattle.mds_request.specs.Call.{call_of}
use Rattle.mds_request.specs.Configuration.{Configuration, Operator, actor_of, has_alike}
use Rattle.mds_request.specs.Reply.{Reply, refused}
use Rattle.mds_request.specs.Request.{Request}
use Rattle.mds_request.specs.declared.call.Call.{Call}
use Rattle.mds_request.specs.declared.call.Call.TheVariants as call
use Rattle.mds_request.specs.declared.call.OperatorCall.{OperatorCall}
use Rattle.mds_request.specs.declared.call.OperatorCall.TheVariants as operators
use Rattle.mds_request.specs.declared.code.Code.{Code}
use Rattle.mds_request.specs.declared.config.Actor.{Actor}
use Rattle.mds_request.specs.declared.config.Actor.TheVariants.{Author, Operator as OperatorAt, Nobody}
use Rattle.mds_request.proofs.Callers.{operator_asks}
use Rattle.mds_machine.specs.Answer.{◌>>=◌}
use Rattle.mds_machine.specs.Desks.{AreTurns, IsTurn, IsUnavailable, refusal_of}
use Rattle.mds_machine.specs.Fronts.{Turn, requests_in}
use Rattle.mds_machine.specs.Meaning.{own_call, own_step}
use Rattle.mds_machine.specs.Operator.{operator_does}
use Rattle.mds_machine.specs.Views.{is_of, is_place}
use Rattle.mds_machine.proofs.Successes.{operator_succeeds, settled_leaves, succeeds_on}
use Rattle.journal_laws.specs.Persisted.{may_change}
use Rattle.journal_laws.specs.Servers.{AreServed, kept_turns}
use Rattle.journal_entry.specs.Entries.{Entry}
use Rattle.journal_entry.specs.Requests.{actor_by, token_of, with_token}
use Rattle.journal_recovery.specs.Laws.{is_actor, requests_by}
use Rattle.journal_compaction.specs.declared.kind.Device.{Device}
use Rattle.journal_compaction.specs.declared.kind.EntryKind.TheVariants.{Other}
use Rattle.journal_compaction.specs.Kinds.{as_report, kind_asked, kind_by, kind_of}
use Rattle.journal_compaction.specs.Laws.{added, reports_since}
use Rattle.journal_compaction.specs.Staying.{is_same}
use Rattle.journal_compaction.proofs.Clients.{whose}
use Rattle.journal_compaction.proofs.Moves.{fails, moved, own_step_moves, row_added}
use Rattle.journal_compaction.proofs.Rows.{run, run_all}

-- ---- one turn

-- what isn't persisted is of no kind that changes a row
reads_only : (called : Result Call Code) (body : List ℕ) → may_change called ≡ false → kind_by called body ≡ Other
reads_only (Err code) body is = refl
reads_only (Ok (call.Author own)) body is = refl
reads_only (Ok (call.Operator at operators.Policies)) body is = refl
reads_only (Ok (call.Operator at (operators.Policy id))) body is = refl
reads_only (Ok (call.Operator at operators.Geographies)) body is = refl
reads_only (Ok (call.Operator at (operators.Geography id))) body is = refl
reads_only (Ok (call.Operator at operators.Report)) body is = absurd cc
reads_only (Ok (call.Operator at operators.Vehicles)) body is = refl
reads_only (Ok (call.Operator at (operators.RemoveVehicle id))) body is = absurd cc
reads_only (Ok (call.Operator at operators.Compliance)) body is = refl
reads_only (Ok (call.Operator at (operators.PolicyCompliance id))) body is = refl

the_operator : (place : ℕ) (actor : Actor) → is_place place actor ≡ true → actor ≡ OperatorAt place
the_operator place Author is = absurd cc
the_operator place (OperatorAt other) is = ap (λ (p : ℕ). OperatorAt p) (sym (eqb-true place other is))
the_operator place Nobody is = absurd cc

available : (reply : Reply) → reply.status ≡ 200 → IsUnavailable reply → ⊥
available reply ok away = elim away [
  | inl is ↦ omega (arith, ok, ap (λ (r : Reply). r.status) is)
  | inr is ↦ omega (arith, ok, ap (λ (r : Reply). r.status) is)
]

module _ (configuration : Configuration) (own : Device) where
  -- a device's row after a request, and after several
  abbrev pub after_request : Option Row → Request → Option Row
  after_request held request = moved own (kind_by (call_of configuration request) request.body) (read_report request.body) held

  abbrev pub after_requests : Option Row → List Request → Option Row
  after_requests held [] = held
  after_requests held (request ∷ requests) = after_requests (after_request held request) requests

module _ (configuration : Configuration) (place : ℕ) (operator : Operator) (id : List ℕ) where
  abbrev own : Device
  own = record { operator = place; id = id }

  abbrev row_after_all : Option Row → List Request → Option Row
  row_after_all held requests = after_requests configuration own held requests

  module _ (front : List Publication) (rows : Rows) (request : Request) where
    abbrev done : Bool → Reply × Rows
    done mine = cond mine (own_step configuration operator front rows request) (refused (refusal_of (call_of configuration request)), rows)

    done_moves : (mine : Bool) → is_of configuration place request ≡ mine → (done mine).0.status ≡ 200
        → get (done mine).1 id ≡ after_request configuration own (get rows id) request
    done_moves true is ok =
        own_step_moves configuration place operator front rows request id (the_operator place (actor_of configuration request.token) is) ok
    done_moves false is ok = absurd (fails (refusal_of (call_of configuration request)) ok)

    done_fails : (mine : Bool) → (done mine).0.status ≢ 200 → (done mine).1 ≡ rows
    done_fails true failed =
        settled_leaves rows (call_of configuration request >>= own_call >>= λ called. operator_does configuration.zone operator front rows called request)
        (succeeds_on (call_of configuration request >>= own_call) _ (λ called. operator_succeeds configuration.zone operator front rows called request)) failed
    done_fails false failed = refl

  module _ (known : List Publication) (rows after : Rows) (turn : Turn) (t : IsTurn configuration place operator known rows turn after) where
    succeeds : turn.reply.status ≡ 200 → get after id ≡ after_request configuration own (get rows id) turn.request
    succeeds ok = elim t.answer [
      | inl a ↦ ap (λ m. get m id) a.1
          ∙ done_moves turn.front rows turn.request (is_of configuration place turn.request) refl (sym (ap (λ (r : Reply). r.status) a.0) ∙ ok)
      | inr a ↦ absurd (available turn.reply ok a.0)
    ]

    leaves : turn.reply.status ≢ 200 → after ≡ rows
    leaves failed = elim t.answer [
      | inl a ↦ a.1
          ∙ done_fails turn.front rows turn.request (is_of configuration place turn.request) (λ ok. failed (ap (λ (r : Reply). r.status) a.0 ∙ ok))
      | inr a ↦ a.1
    ]

    not_200 : (turn.reply.status == 200) ≡ false → turn.reply.status ≢ 200
    not_200 isnt is = grind (arith, isnt, is)

    -- what is persisted changes the row, and nothing else does
    one_turn : (may ok : Bool) (kept : List Request) → may_change (call_of configuration turn.request) ≡ may → (turn.reply.status == 200) ≡ ok
        → row_after_all (get after id) kept ≡ row_after_all (get rows id) (cond (may && ok) (turn.request ∷ kept) kept)
    one_turn true true kept may ok = ap (λ held. row_after_all held kept) (succeeds (eqb-true turn.reply.status 200 ok))
    one_turn true false kept may ok = ap (λ (m : Rows). row_after_all (get m id) kept) (leaves (not_200 ok))
    one_turn false true kept may ok =
        ap (λ held. row_after_all held kept)
        (succeeds (eqb-true turn.reply.status 200 ok)
        ∙ ap (λ kind. moved own kind (read_report turn.request.body) (get rows id)) (reads_only (call_of configuration turn.request) turn.request.body may))
    one_turn false false kept may ok = ap (λ (m : Rows). row_after_all (get m id) kept) (leaves (not_200 ok))

  if_kept : (b : Bool) (turn : Turn) (turns : List Turn) → requests_in (cond b (turn ∷ turns) turns) ≡ cond b (turn.request ∷ requests_in turns) (requests_in turns)
  if_kept true turn turns = refl
  if_kept false turn turns = refl

  -- the rows after turns follow from the requests that are persisted
  pub kept_move : (known : List Publication) (rows after : Rows) (turns : List Turn) → AreTurns configuration place operator known rows turns after
      → get after id ≡ row_after_all (get rows id) (requests_in (kept_turns configuration turns))
  kept_move known rows after [] are = ap (λ m. get m id) are
  kept_move known rows after (turn ∷ turns) are =
      let may = may_change (call_of configuration turn.request) in
      let kept = requests_in (kept_turns configuration turns) in
      kept_move turn.front are.0 after turns are.2
      ∙ one_turn known rows are.0 turn are.1 may (turn.reply.status == 200) kept refl refl
      ∙ ap (row_after_all (get rows id)) (sym (if_kept (may && (turn.reply.status == 200)) turn (kept_turns configuration turns)))

  -- and from all requests, where all are successes
  pub served_move : (known : List Publication) (rows after : Rows) (turns : List Turn) → AreTurns configuration place operator known rows turns after
      → AreServed turns → get after id ≡ row_after_all (get rows id) (requests_in turns)
  served_move known rows after [] are served = ap (λ m. get m id) are
  served_move known rows after (turn ∷ turns) are served =
      served_move turn.front are.0 after turns are.2 served.1
      ∙ ap (λ held. row_after_all held (requests_in turns)) (succeeds known rows are.0 turn are.1 served.0)

-- ---- entries

module _ (c : Configuration) (device : Device) where
  -- a device's row after entries
  abbrev pub after_entries : Option Row → List Entry → Option Row
  after_entries held [] = held
  after_entries held (e ∷ entries) = after_entries (moved device (kind_of c e) (read_report e.body) held) entries

  row_of_run : (entries : List Entry) (reports : List Told) → row_by (run c device reports entries) ≡ after_entries (row_by reports) entries
  row_of_run [] reports = refl
  row_of_run (e ∷ entries) reports =
      row_of_run entries (added device (kind_of c e) (read_report e.body) reports)
      ∙ ap (λ held. after_entries held entries) (row_added device (kind_of c e) (read_report e.body) reports)

  pub row_of_entries : (entries : List Entry) → row_by (reports_since c device (reverse entries)) ≡ after_entries None entries
  row_of_entries entries = ap row_by (run_all c device entries) ∙ row_of_run entries []

  pub entries_on : (front rest : List Entry) (held : Option Row) → after_entries held (front ++ rest) ≡ after_entries (after_entries held front) rest
  entries_on [] rest held = refl
  entries_on (e ∷ front) rest held = entries_on front rest (moved device (kind_of c e) (read_report e.body) held)

module _ (c : Configuration) (place : ℕ) (unlike : has_alike c ≡ false) (id : List ℕ) where
  abbrev its : Device
  its = record { operator = place; id = id }

  -- a device of another operator is another device
  other_device : (at : ℕ) (x : List ℕ) → nat_eq place at ≡ false → is_same (record { operator = at; id = x }) its ≡ false
  other_device at x apart =
      let not_it : (at == place) ≡ false = grind (arith, nat_tests, apart) in
      ap (λ b. b && bytes_eq x id) not_it

  others_report : (at : ℕ) (read : Result Told Fault) (held : Option Row) → nat_eq place at ≡ false → moved its (as_report at read) read held ≡ held
  others_report at (Err fault) held apart = refl
  others_report at (Ok report) held apart = ap (λ b. cond b (Some (row_after held report)) held) (other_device at report.device apart)

  others_call : (at : ℕ) (called : OperatorCall) (body : List ℕ) (held : Option Row) → nat_eq place at ≡ false
      → moved its (kind_by (Ok (call.Operator at called)) body) (read_report body) held ≡ held
  others_call at operators.Policies body held apart = refl
  others_call at (operators.Policy x) body held apart = refl
  others_call at operators.Geographies body held apart = refl
  others_call at (operators.Geography x) body held apart = refl
  others_call at operators.Report body held apart = others_report at (read_report body) held apart
  others_call at operators.Vehicles body held apart = refl
  others_call at (operators.RemoveVehicle x) body held apart = ap (λ b. cond b None held) (other_device at x apart)
  others_call at operators.Compliance body held apart = refl
  others_call at (operators.PolicyCompliance x) body held apart = refl

  -- a request of another client leaves the row
  others_request : (request : Request) (called : Result Call Code) (held : Option Row) → call_of c request ≡ called
      → is_actor (OperatorAt place) (actor_of c request.token) ≡ false → moved its (kind_by called request.body) (read_report request.body) held ≡ held
  others_request request (Err code) held is other = refl
  others_request request (Ok (call.Author called)) held is other = refl
  others_request request (Ok (call.Operator at called)) held is other =
      others_call at called request.body held (ap (is_actor (OperatorAt place)) (sym (operator_asks c request at called is)) ∙ other)

  others_entry : (e : Entry) (token : Option (List ℕ)) (held : Option Row) → token_of c (actor_by c e.client) ≡ token
      → is_actor (OperatorAt place) (actor_by c e.client) ≡ false
      → moved its (kind_asked c (option_map (with_token e) token)) (read_report e.body) held ≡ held
  others_entry e None held has other = refl
  others_entry e (Some token) held has other =
      others_request (with_token e token) (call_of c (with_token e token)) held refl
      (ap (is_actor (OperatorAt place)) (whose c (actor_by c e.client) token unlike has) ∙ other)

  -- one entry: a request of the operator, or of another client
  abbrev asked : Bool → Option (List ℕ) → Entry → List Request → List Request
  asked mine token e rest = (cond mine (option_to_list (option_map (with_token e) token)) []) ++ rest

  one_entry : (mine : Bool) (token : Option (List ℕ)) (e : Entry) (rest : List Request) (held : Option Row) → is_actor (OperatorAt place) (actor_by c e.client) ≡ mine
      → token_of c (actor_by c e.client) ≡ token
      → after_requests c its held (asked mine token e rest)
      ≡ after_requests c its (moved its (kind_asked c (option_map (with_token e) token)) (read_report e.body) held) rest
  one_entry true None e rest held is has = refl
  one_entry true (Some token) e rest held is has = refl
  one_entry false token e rest held is has = ap (λ h. after_requests c its h rest) (sym (others_entry e token held has is))

  -- the row after entries follows from the operator's requests among them
  pub requests_move : (entries : List Entry) (held : Option Row)
      → after_requests c its held (requests_by c (OperatorAt place) entries) ≡ after_entries c its held entries
  requests_move [] held = refl
  requests_move (e ∷ entries) held =
      one_entry (is_actor (OperatorAt place) (actor_by c e.client)) (token_of c (actor_by c e.client)) e (requests_by c (OperatorAt place) entries) held refl refl
      ∙ requests_move entries (moved its (kind_of c e) (read_report e.body) held)
