-- Replays of a desk's persisted turns.
use mathlib.Core.List.{IsPrefix}
use Rattle.std.proofs.Common.{◌≡◌, ◌≢◌, ℕ, Bool, true, false, cond, List, [], ◌∷◌, ◌++◌, get_or, drop, Result, Ok, Err, ◌⊎◌, inl, inr, refl, sym, ap, subst, ◌∙◌, arith}
use Rattle.std.specs.Prelude.{◌&&◌, ◌==◌}
use Rattle.std.proofs.lemmas.Bool.{eqb-true}
use Rattle.mds_catalog.specs.Publication.{Publication}
use Rattle.mds_fleet.specs.Books.{Rows}
use Rattle.mds_match.specs.declared.zone.Zone.{Zone}
use Rattle.mds_request.specs.Configuration.{Configuration, Operator}
use Rattle.mds_request.specs.Call.{call_of}
use Rattle.mds_request.specs.Request.{Request}
use Rattle.mds_request.specs.Reply.{Reply, refused}
use Rattle.mds_request.specs.declared.call.Call.{Call}
use Rattle.mds_request.specs.declared.call.Call.TheVariants as call
use Rattle.mds_request.specs.declared.call.OperatorCall.{OperatorCall}
use Rattle.mds_request.specs.declared.call.OperatorCall.TheVariants as operators
use Rattle.mds_request.specs.declared.code.Code.{Code}
use Rattle.mds_machine.specs.Answer.{settled, leaving, ◌>>=◌}
use Rattle.mds_machine.specs.Meaning.{own_step, own_call}
use Rattle.mds_machine.specs.Operator.{operator_does}
use Rattle.mds_machine.specs.Views.{is_of}
use Rattle.mds_machine.proofs.Successes.{succeeds_on, operator_succeeds, settled_leaves}
use Rattle.mds_machine.specs.Desks.{AreTurns, IsTurn, IsUnavailable, desk_does, refusal_of}
use Rattle.mds_machine.specs.Fronts.{Turn, last_front, requests_in, replies_in}
use Rattle.mds_machine.proofs.Views.{prefix_on}
use Rattle.journal_laws.specs.Persisted.{may_change, is_kept}
use Rattle.journal_laws.proofs.Kept.{changes_apart}
use Rattle.journal_laws.specs.Servers.{kept_turns, AreServed}

read_left : (rows : Rows) (answer : Result Reply Code) → (settled rows (answer >>= leaving rows)).1 ≡ rows
read_left rows (Ok a) = refl
read_left rows (Err a) = refl

own_left : (zone : Zone) (operator : Operator) (front : List Publication) (rows : Rows) (at : ℕ) (own : OperatorCall) (request : Request)
    → may_change (Ok (call.Operator at own)) ≡ false → (settled rows (operator_does zone operator front rows own request)).1 ≡ rows
own_left zone operator front rows at operators.Policies request reads = refl
own_left zone operator front rows at (operators.Policy id) request reads = read_left rows _
own_left zone operator front rows at operators.Geographies request reads = refl
own_left zone operator front rows at (operators.Geography id) request reads = read_left rows _
own_left zone operator front rows at operators.Report request reads = absurd cc
own_left zone operator front rows at operators.Vehicles request reads = refl
own_left zone operator front rows at (operators.RemoveVehicle device) request reads = absurd cc
own_left zone operator front rows at operators.Compliance request reads = refl
own_left zone operator front rows at (operators.PolicyCompliance id) request reads = read_left rows _

called_left : (zone : Zone) (operator : Operator) (front : List Publication) (rows : Rows) (request : Request) (called : Result Call Code)
    → may_change called ≡ false → (settled rows (called >>= own_call >>= λ own. operator_does zone operator front rows own request)).1 ≡ rows
called_left zone operator front rows request (Err code) reads = refl
called_left zone operator front rows request (Ok (call.Author own)) reads = refl
called_left zone operator front rows request (Ok (call.Operator at own)) reads = own_left zone operator front rows at own request reads

abbrev paired : Reply → Rows → Reply × Rows
paired reply rows = (reply, rows)

module _ (configuration : Configuration) (place : ℕ) (operator : Operator) where
  does_by : Bool → List Publication → Rows → Request → Reply × Rows
  does_by b front rows request = cond b (own_step configuration operator front rows request) (refused (refusal_of (call_of configuration request)), rows)

  reads_left : (b : Bool) (front : List Publication) (rows : Rows) (request : Request) → may_change (call_of configuration request) ≡ false
      → (does_by b front rows request).1 ≡ rows
  unfolding does_by
  reads_left true front rows request reads = called_left configuration.zone operator front rows request (call_of configuration request) reads
  reads_left false front rows request reads = refl

  failed_left : (b : Bool) (front : List Publication) (rows : Rows) (request : Request) → (does_by b front rows request).0.status ≢ 200
      → (does_by b front rows request).1 ≡ rows
  unfolding does_by
  failed_left true front rows request failed =
      settled_leaves rows (call_of configuration request >>= own_call >>= λ own. operator_does configuration.zone operator front rows own request)
      (succeeds_on (call_of configuration request >>= own_call) _ (λ own. operator_succeeds configuration.zone operator front rows own request)) failed
  failed_left false front rows request failed = refl

  does_apart : (b : Bool) (front other : List Publication) (rows : Rows) (request : Request)
      → may_change (call_of configuration request) ≡ true → does_by b front rows request ≡ does_by b other rows request
  unfolding does_by
  does_apart true front other rows request may = changes_apart configuration operator front other rows request (call_of configuration request) may
  does_apart false front other rows request may = refl

  is_does : (front : List Publication) (rows : Rows) (request : Request)
      → desk_does configuration place operator front rows request ≡ does_by (is_of configuration place request) front rows request
  unfolding does_by
  is_does front rows request = refl

  one_false : (a b : Bool) → (a && b) ≡ false → (a ≡ false) ⊎ (b ≡ false)
  one_false true b e = inr e
  one_false false b e = inl refl

  not_200 : (status : ℕ) → (status == 200) ≡ false → status ≢ 200
  not_200 status isnt is = grind (arith, isnt, is)

  both_true : (a b : Bool) → (a && b) ≡ true → (a ≡ true) × (b ≡ true)
  both_true true b e = (refl, e)
  both_true false b e = absurd cc

  -- a turn that isn't persisted leaves the rows unchanged
  turn_left : (known : List Publication) (rows after : Rows) (turn : Turn) → IsTurn configuration place operator known rows turn after
      → is_kept configuration (record { request = turn.request; reply = turn.reply }) ≡ false → after ≡ rows
  turn_left known rows after turn t isnt = elim t.answer [
    | inl a ↦ a.1 ∙ ap (λ (x : Reply × Rows). x.1) (is_does turn.front rows turn.request)
        ∙ elim (one_false (may_change (call_of configuration turn.request)) (turn.reply.status == 200) isnt) [
          | inl reads ↦ reads_left (is_of configuration place turn.request) turn.front rows turn.request reads
          | inr failed ↦ failed_left (is_of configuration place turn.request) turn.front rows turn.request
              (λ is. not_200 turn.reply.status failed (ap (λ (r : Reply). r.status) (a.0 ∙ ap (λ (x : Reply × Rows). x.0) (is_does turn.front rows turn.request)) ∙ is))
        ]
    | inr a ↦ a.1
  ]

  available : (reply : Reply) → reply.status ≡ 200 → IsUnavailable reply → ⊥
  available reply ok away = elim away [
    | inl is ↦ omega (arith, ok, ap (λ (r : Reply). r.status) is)
    | inr is ↦ omega (arith, ok, ap (λ (r : Reply). r.status) is)
  ]

  -- a success is what the desk does
  turn_does : (known : List Publication) (rows after : Rows) (turn : Turn) → IsTurn configuration place operator known rows turn after
      → turn.reply.status ≡ 200 → paired turn.reply after ≡ does_by (is_of configuration place turn.request) turn.front rows turn.request
  turn_does known rows after turn t ok = elim t.answer [
    | inl a ↦ pair turn.reply after (desk_does configuration place operator turn.front rows turn.request) a.0 a.1 ∙ is_does turn.front rows turn.request
    | inr a ↦ absurd (available turn.reply ok a.0)
  ] where
    pair : (reply : Reply) (rows : Rows) (does : Reply × Rows) → reply ≡ does.0 → rows ≡ does.1 → paired reply rows ≡ does
    pair reply rows does e f = ap (λ (r : Reply). paired r rows) e ∙ ap (λ (s : Rows). paired does.0 s) f

  -- the same request again
  same_turn : (known other : List Publication) (rows after apart : Rows) (turn again : Turn)
      → IsTurn configuration place operator known rows turn after → IsTurn configuration place operator other rows again apart
      → is_kept configuration (record { request = turn.request; reply = turn.reply }) ≡ true
      → again.reply.status ≡ 200 → again.request ≡ turn.request → paired again.reply apart ≡ paired turn.reply after
  same_turn known other rows after apart turn again t a kept ok request =
      let both = both_true (may_change (call_of configuration turn.request)) (turn.reply.status == 200) kept in
      turn_does other rows apart again a ok
      ∙ ap (λ (q : Request). does_by (is_of configuration place q) again.front rows q) request
      ∙ does_apart (is_of configuration place turn.request) again.front turn.front rows turn.request both.0
      ∙ sym (turn_does known rows after turn t (eqb-true turn.reply.status 200 both.1))

  head_is : (a b : Request) (cs ds : List Request) → a ∷ cs ≡ b ∷ ds → a ≡ b
  head_is a b cs ds e = ap (λ (x : List Request). get_or x 0 a) e

  rest_is : (a b : Request) (cs ds : List Request) → a ∷ cs ≡ b ∷ ds → cs ≡ ds
  rest_is a b cs ds e = ap (λ (x : List Request). drop 1 x) e

  not_empty : (a : Request) (cs : List Request) → [] ≡ a ∷ cs → ⊥
  not_empty a cs e = absurd cc

  abbrev Same : List Turn → Rows → List Turn → Rows → Type 0
  Same again apart kept after = (replies_in again ≡ replies_in kept) × (apart ≡ after)

  -- all later turns are recovered, from whatever is known
  abbrev IsRecoveredFrom : List Turn → List Publication → Rows → Rows → Type 0
  IsRecoveredFrom turns known rows after =
      (other : List Publication) (apart : Rows) (again : List Turn) → AreTurns configuration place operator other rows again apart → AreServed again
      → requests_in again ≡ requests_in (kept_turns configuration turns) → Same again apart (kept_turns configuration turns) after

  one_turn : (b : Bool) (known : List Publication) (rows between after : Rows) (turn : Turn) (kept : List Turn)
      → is_kept configuration (record { request = turn.request; reply = turn.reply }) ≡ b
      → IsTurn configuration place operator known rows turn between
      → ((other : List Publication) (apart : Rows) (again : List Turn) → AreTurns configuration place operator other between again apart
      → AreServed again → requests_in again ≡ requests_in kept → Same again apart kept after)
      → (other : List Publication) (apart : Rows) (again : List Turn) → AreTurns configuration place operator other rows again apart → AreServed again
      → requests_in again ≡ requests_in (cond b (turn ∷ kept) kept) → Same again apart (cond b (turn ∷ kept) kept) after
  one_turn false known rows between after turn kept is t on other apart again are all same =
      on other apart again (subst (λ (r : Rows). AreTurns configuration place operator other r again apart) (sym (turn_left known rows between turn t is)) are) all same
  one_turn true known rows between after turn kept is t on other apart [] are all same = absurd (not_empty _ _ same)
  one_turn true known rows between after turn kept is t on other apart (a ∷ again) are all same =
      let request = head_is a.request turn.request (requests_in again) (requests_in kept) same in
      let one = same_turn known other rows between are.0 turn a t are.1 is all.0 request in
      let on_rows : are.0 ≡ between = ap (λ (x : Reply × Rows). x.1) one in
      let rest = on a.front apart again (subst (λ (r : Rows). AreTurns configuration place operator a.front r again apart) on_rows are.2) all.1
      (rest_is a.request turn.request (requests_in again) (requests_in kept) same) in
      (ap (λ (r : Reply). r ∷ replies_in again) (ap (λ (x : Reply × Rows). x.0) one) ∙ ap (λ (x : List Reply). turn.reply ∷ x) rest.0, rest.1)

  none : (rows : Rows) (other : List Publication) (apart : Rows) (again : List Turn)
      → AreTurns configuration place operator other rows again apart → requests_in again ≡ [] → Same again apart [] rows
  none rows other apart [] are same = (refl, are)
  none rows other apart (a ∷ again) are same = absurd (not_empty _ _ (sym same))

  pub recovered : (turns : List Turn) (known : List Publication) (rows after : Rows)
      → AreTurns configuration place operator known rows turns after → IsRecoveredFrom turns known rows after
  recovered [] known rows after are = λ other apart again are_again all same.
      let n = none rows other apart again are_again same in (n.0, n.1 ∙ sym are)
  recovered (turn ∷ turns) known rows after are =
      one_turn (is_kept configuration (record { request = turn.request; reply = turn.reply })) known rows are.0 after turn
      (kept_turns configuration turns) refl are.1 (recovered turns turn.front are.0 after are.2)

  less_known : (known other : List Publication) (rows after : Rows) (turns : List Turn) → IsPrefix known other
      → AreTurns configuration place operator other rows turns after → AreTurns configuration place operator known rows turns after
  less_known known other rows after [] front are = are
  less_known known other rows after (turn ∷ turns) front are =
      (are.0, record { begins = prefix_on known other turn.front front are.1.begins; answer = are.1.answer }, are.2)

  pub joined : (known other : List Publication) (rows left after : Rows) (told later : List Turn)
      → AreTurns configuration place operator known rows told left → IsPrefix (last_front known told) other
      → AreTurns configuration place operator other left later after → AreTurns configuration place operator known rows (told ++ later) after
  joined known other rows left after [] later are front on =
      less_known known other rows after later front (subst (λ (r : Rows). AreTurns configuration place operator other r later after) are on)
  joined known other rows left after (turn ∷ told) later are front on = (are.0, are.1, joined turn.front other are.0 left after told later are.2 front on)
