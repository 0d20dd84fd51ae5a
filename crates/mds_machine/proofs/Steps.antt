-- What one step of the machine depends on, and what it doesn't change.
use Rattle.std.proofs.Common.{◌≡◌, ◌≢◌, ℕ, ◌+◌, suc, zero, ◌<◌, List, [], ◌∷◌, set, length, Option, Some, None, Result, Ok, Err, inl, inr, refl, sym, ap, subst, ◌∙◌, arith}
use Rattle.std.specs.List.{slice_get}
use Rattle.std.proofs.lemmas.List.{get_or-set_same, length-set}
use Rattle.std.proofs.lemmas.Option.{slice_get-get_or, slice_get_within}
use Rattle.mds_catalog.specs.Publication.{Publication}
use Rattle.mds_drafts.specs.Drafts.{Drafts}
use Rattle.mds_fleet.specs.Books.{Rows}
use Rattle.mds_request.specs.Configuration.{Configuration, Operator, actor_of}
use Rattle.mds_request.specs.Call.{call_of}
use Rattle.mds_request.specs.Request.{Request}
use Rattle.mds_request.specs.Reply.{Reply, refused}
use Rattle.mds_request.specs.declared.call.OperatorCall.{OperatorCall}
use Rattle.mds_request.specs.declared.call.Call.{Call}
use Rattle.mds_request.specs.declared.call.Call.TheVariants as call
use Rattle.mds_request.specs.declared.code.Code.{Code}
use Rattle.mds_request.specs.declared.code.Code.TheVariants.{NoMemory, Token}
use Rattle.mds_request.specs.declared.config.Actor.TheVariants.{Author, Operator as OperatorAt}
use Rattle.mds_machine.specs.Answer.{settled, or_code, ◌>>=◌}
use Rattle.mds_machine.specs.Author.{author_does}
use Rattle.mds_machine.specs.Operator.{operator_does}
use Rattle.mds_machine.specs.Isolation.{Agree}
use Rattle.mds_machine.specs.Step.{State, Step, with_rows, call_does, answered}
use Rattle.mds_machine.specs.Laws.{IsTotal, IsDetermined, LeavesOthers, LeavesRows}
use Rattle.mds_machine.proofs.Callers.{IsBy, call_by}

pub is_total : IsTotal
is_total w request = ((answered w request).0, (answered w request).1, inl (refl, refl))

pub is_determined : IsDetermined
is_determined w request reply other next apart h k real really = elim h [
  | inl a ↦ elim k [
    | inl b ↦ (a.0 ∙ sym b.0, a.1 ∙ sym b.1)
    | inr b ↦ absurd (really b.1)
  ]
  | inr a ↦ absurd (real a.1)
]

-- ---- the step of a call

abbrev pub call_step : State → Result Call Code → Request → Reply × State
call_step w call request = settled w (call >>= λ c. call_does w c request)

-- what a call does to an operator's rows, as a change of the state
abbrev pub lifted : State → ℕ → Result (Reply × Rows) Code → Reply × State
lifted w place own = settled w (own >>= λ after. Ok (after.0, with_rows w place after.1))

-- the same for the author's drafts and publications
abbrev pub authored : State → Result (Reply × (Drafts × List Publication)) Code → Reply × State
authored w own =
    settled w (own >>= λ after. Ok (after.0, record { configuration = w.configuration; publications = after.1.1; drafts = after.1.0; fleets = w.fleets }))

-- an operator's call, by the operator and the rows at its place, if there are any
abbrev pub operator_step : State → ℕ → Option Operator → Option Rows → OperatorCall → Request → Reply × State
operator_step w place found held call request =
    settled w (or_code Token found >>= λ operator. or_code Token held >>= λ rows.
    operator_does w.configuration.zone operator w.publications rows call request >>= λ after. Ok (after.0, with_rows w place after.1))

-- ---- what doesn't change

-- nothing changes for an operator
abbrev IsLeft : State → State → ℕ → Type 0
IsLeft w next other = Agree next w other × (next.drafts ≡ w.drafts)

same : (w : State) (other : ℕ) → IsLeft w w other
same w other = (record { configuration = refl; publications = refl; rows = refl }, refl)

pub set_there : (rows : List Rows) (i j : ℕ) (new : Rows) → j ≢ i → slice_get (set rows i new) j ≡ slice_get rows j
set_there [] i j new apart = refl
set_there (x ∷ rows) zero zero new apart = absurd (apart refl)
set_there (x ∷ rows) zero (suc j) new apart = refl
set_there (x ∷ rows) (suc i) zero new apart = refl
set_there (x ∷ rows) (suc i) (suc j) new apart = set_there rows i j new (λ is. apart (ap suc is))

pub lifted_left : (w : State) (place other : ℕ) (own : Result (Reply × Rows) Code) → other ≢ place → IsLeft w (lifted w place own).1 other
lifted_left w place other (Err code) apart = same w other
lifted_left w place other (Ok after) apart =
    (record { configuration = refl; publications = refl; rows = set_there w.fleets place other after.1 apart }, refl)

pub operator_left : (w : State) (place other : ℕ) (found : Option Operator) (held : Option Rows) (call : OperatorCall) (request : Request) → other ≢ place → IsLeft w (operator_step w place found held call request).1 other
operator_left w place other None held call request apart = same w other
operator_left w place other (Some operator) None call request apart = same w other
operator_left w place other (Some operator) (Some rows) call request apart =
    lifted_left w place other (operator_does w.configuration.zone operator w.publications rows call request) apart

call_left : (w : State) (place other : ℕ) (call : Result Call Code) (request : Request) → IsBy (OperatorAt place) call → other ≢ place → IsLeft w (call_step w call request).1 other
call_left w place other (Err code) request by apart = same w other
call_left w place other (Ok (call.Author own)) request by apart = absurd by
call_left w place other (Ok (call.Operator at own)) request by apart =
    operator_left w at other _ _ own request (λ is. apart (is ∙ by))

-- a request's call is its own client's
pub own_by : (w : State) (request : Request) (place : ℕ) → actor_of w.configuration request.token ≡ OperatorAt place → IsBy (OperatorAt place) (call_of w.configuration request)
own_by w request place whose = subst (λ actor. IsBy actor (call_of w.configuration request)) whose (call_by w.configuration request)

pub leaves_others : LeavesOthers
leaves_others w request reply next place other whose h apart = elim h [
  | inl a ↦ subst (λ s. IsLeft w s other) (sym a.1) (call_left w place other (call_of w.configuration request) request (own_by w request place whose) apart)
  | inr a ↦ subst (λ s. IsLeft w s other) (sym a.2) (same w other)
]

pub authored_rows : (w : State) (own : Result (Reply × (Drafts × List Publication)) Code) → (authored w own).1.fleets ≡ w.fleets
authored_rows w (Err code) = refl
authored_rows w (Ok after) = refl

call_rows : (w : State) (call : Result Call Code) (request : Request) → IsBy Author call → (call_step w call request).1.fleets ≡ w.fleets
call_rows w (Err code) request by = refl
call_rows w (Ok (call.Author own)) request by = authored_rows w (author_does w.drafts w.publications own request)
call_rows w (Ok (call.Operator at own)) request by = absurd by

pub leaves_rows : LeavesRows
leaves_rows w request reply next whose h = elim h [
  | inl a ↦ ap (λ s. s.fleets) a.1
      ∙ call_rows w (call_of w.configuration request) request (subst (λ actor. IsBy actor (call_of w.configuration request)) whose (call_by w.configuration request))
  | inr a ↦ ap (λ s. s.fleets) a.2
]

-- ---- two states

-- the reply to an operator's call, and its rows afterwards, if it has any
abbrev reply_by : Configuration → List Publication → OperatorCall → Request → Option Operator → Option Rows → Reply
reply_by configuration publications call request None held = refused Token
reply_by configuration publications call request (Some operator) None = refused Token
reply_by configuration publications call request (Some operator) (Some rows) =
    (settled rows (operator_does configuration.zone operator publications rows call request)).0

abbrev rows_by : Configuration → List Publication → OperatorCall → Request → Option Operator → Option Rows → Option Rows
rows_by configuration publications call request None held = held
rows_by configuration publications call request (Some operator) None = None
rows_by configuration publications call request (Some operator) (Some rows) =
    Some (settled rows (operator_does configuration.zone operator publications rows call request)).1

pub lifted_reply : (w : State) (place : ℕ) (rows : Rows) (own : Result (Reply × Rows) Code) → (lifted w place own).0 ≡ (settled rows own).0
lifted_reply w place rows (Err code) = refl
lifted_reply w place rows (Ok after) = refl

reply_is : (w : State) (place : ℕ) (found : Option Operator) (held : Option Rows) (call : OperatorCall) (request : Request) → (operator_step w place found held call request).0 ≡ reply_by w.configuration w.publications call request found held
reply_is w place None held call request = refl
reply_is w place (Some operator) None call request = refl
reply_is w place (Some operator) (Some rows) call request =
    lifted_reply w place rows (operator_does w.configuration.zone operator w.publications rows call request)

pub set_here : (fleets : List Rows) (place : ℕ) (old new : Rows) → slice_get fleets place ≡ Some old → slice_get (set fleets place new) place ≡ Some new
set_here fleets place old new held =
    let within : place < length fleets = slice_get_within fleets place old held in
    let within_set : place < length (set fleets place new) = omega (arith, within, length-set fleets place new) in
    slice_get-get_or (set fleets place new) place new within_set ∙ ap Some (get_or-set_same fleets place new new within)

pub lifted_rows : (w : State) (place : ℕ) (rows : Rows) (own : Result (Reply × Rows) Code) → slice_get w.fleets place ≡ Some rows → slice_get (lifted w place own).1.fleets place ≡ Some (settled rows own).1
lifted_rows w place rows (Err code) held = held
lifted_rows w place rows (Ok after) held = set_here w.fleets place rows after.1 held

rows_are : (w : State) (place : ℕ) (found : Option Operator) (held : Option Rows) (call : OperatorCall) (request : Request) → slice_get w.fleets place ≡ held → slice_get (operator_step w place found held call request).1.fleets place ≡ rows_by w.configuration w.publications call request found held
rows_are w place None held call request is = is
rows_are w place (Some operator) None call request is = is
rows_are w place (Some operator) (Some rows) call request is =
    lifted_rows w place rows (operator_does w.configuration.zone operator w.publications rows call request) is

module _ (w v : State) (request : Request) (place : ℕ) (agree : Agree w v place) where
  -- a call of an operator in states that agree for it
  same_operator : (own : OperatorCall) → ((call_step w (Ok (call.Operator place own)) request).0 ≡ (call_step v (Ok (call.Operator place own)) request).0) × Agree (call_step w (Ok (call.Operator place own)) request).1 (call_step v (Ok (call.Operator place own)) request).1 place
  same_operator own =
      let found = slice_get w.configuration.operators place in
      let found' = slice_get v.configuration.operators place in
      let held = slice_get w.fleets place in
      let held' = slice_get v.fleets place in
      let found_same : found ≡ found' = ap (λ c. slice_get c.operators place) agree.configuration in
      let replies : reply_by w.configuration w.publications own request found held ≡ reply_by v.configuration v.publications own request found' held' =
      ap (λ c. reply_by c w.publications own request found held) agree.configuration
      ∙ ap (λ p. reply_by v.configuration p own request found held) agree.publications
      ∙ ap (λ f. reply_by v.configuration v.publications own request f held) found_same
      ∙ ap (λ h. reply_by v.configuration v.publications own request found' h) agree.rows in
      let rows : rows_by w.configuration w.publications own request found held ≡ rows_by v.configuration v.publications own request found' held' =
      ap (λ c. rows_by c w.publications own request found held) agree.configuration
      ∙ ap (λ p. rows_by v.configuration p own request found held) agree.publications
      ∙ ap (λ f. rows_by v.configuration v.publications own request f held) found_same
      ∙ ap (λ h. rows_by v.configuration v.publications own request found' h) agree.rows in
      let left = operator_left w place (place + 1) found held own request (λ is. omega (arith, is)) in
      let left' = operator_left v place (place + 1) found' held' own request (λ is. omega (arith, is)) in (
        reply_is w place found held own request ∙ replies ∙ sym (reply_is v place found' held' own request),
        record {
          configuration = left.0.configuration ∙ agree.configuration ∙ sym left'.0.configuration;
          publications = left.0.publications ∙ agree.publications ∙ sym left'.0.publications;
          rows = rows_are w place found held own request refl ∙ rows ∙ sym (rows_are v place found' held' own request refl);
        },
      )

  same_call : (call : Result Call Code) → IsBy (OperatorAt place) call → ((call_step w call request).0 ≡ (call_step v call request).0) × Agree (call_step w call request).1 (call_step v call request).1 place
  same_call (Err code) by = (refl, agree)
  same_call (Ok (call.Author own)) by = absurd by
  same_call (Ok (call.Operator at own)) by =
      subst (λ x. ((call_step w (Ok (call.Operator x own)) request).0 ≡ (call_step v (Ok (call.Operator x own)) request).0) × Agree (call_step w (Ok (call.Operator x own)) request).1 (call_step v (Ok (call.Operator x own)) request).1 place)
      (sym by) (same_operator own)

  pub same_answer : actor_of w.configuration request.token ≡ OperatorAt place → ((answered w request).0 ≡ (answered v request).0) × Agree (answered w request).1 (answered v request).1 place
  same_answer whose =
      subst (λ call. ((answered w request).0 ≡ (call_step v call request).0) × Agree (answered w request).1 (call_step v call request).1 place)
      (ap (λ c. call_of c request) agree.configuration)
      (same_call (call_of w.configuration request) (own_by w request place whose))

-- in states that agree for an operator, a request of it has the same reply, and they agree for it afterwards, whatever
-- the drafts and the rows of others are
abbrev IsIsolated : Type 0
IsIsolated =
    (w v : State) (request : Request) (reply other : Reply) (next apart : State) (place : ℕ)
    → actor_of w.configuration request.token ≡ OperatorAt place → Agree w v place
    → Step w request reply next → Step v request other apart → reply ≢ refused NoMemory → other ≢ refused NoMemory
    → (reply ≡ other) × Agree next apart place

pub is_isolated : IsIsolated
is_isolated w v request reply other next apart place whose agree h k real really = elim h [
  | inl a ↦ elim k [
    | inl b ↦ let both = same_answer w v request place agree whose in
        (a.0 ∙ both.0 ∙ sym b.0, subst (λ s. Agree s apart place) (sym a.1) (subst (λ s. Agree (answered w request).1 s place) (sym b.1) both.1))
    | inr b ↦ absurd (really b.1)
  ]
  | inr a ↦ absurd (real a.1)
]
