-- Steps of the machine with other rows for one operator.
use Rattle.std.proofs.Common.{◌≡◌, ◌≢◌, ℕ, false, List, Option, Some, None, Result, Ok, Err, inl, inr, refl, sym, ap, subst, ◌∙◌}
use Rattle.std.specs.List.{slice_get}
use Rattle.std.proofs.lemmas.Bool.{eqb-false}
use Rattle.std.proofs.lemmas.List.{set-set, set_comm}
use Rattle.mds_catalog.specs.Publication.{Publication}
use Rattle.mds_drafts.specs.Drafts.{Drafts}
use Rattle.mds_fleet.specs.Books.{Rows}
use Rattle.mds_request.specs.Configuration.{Operator, actor_of}
use Rattle.mds_request.specs.Call.{call_of}
use Rattle.mds_request.specs.Request.{Request}
use Rattle.mds_request.specs.Reply.{Reply}
use Rattle.mds_request.specs.declared.call.Call.{Call}
use Rattle.mds_request.specs.declared.call.Call.TheVariants as call
use Rattle.mds_request.specs.declared.call.OperatorCall.{OperatorCall}
use Rattle.mds_request.specs.declared.code.Code.{Code}
use Rattle.mds_request.specs.declared.config.Actor.{Actor}
use Rattle.mds_request.specs.declared.config.Actor.TheVariants.{Author, Operator as OperatorAt, Nobody}
use Rattle.mds_machine.specs.Answer.{settled, ◌>>=◌}
use Rattle.mds_machine.specs.Author.{author_does}
use Rattle.mds_machine.specs.Meaning.{own_call, own_step}
use Rattle.mds_machine.specs.Operator.{operator_does}
use Rattle.mds_machine.specs.Step.{State, Step, with_rows}
use Rattle.mds_machine.specs.Views.{is_place, is_of}
use Rattle.mds_machine.proofs.Callers.{IsBy, call_by}
use Rattle.mds_machine.proofs.Steps.{call_step, lifted, authored, operator_step, own_by, set_there, set_here}

abbrev pub with_fleets : State → List Rows → State
with_fleets w fleets = record { configuration = w.configuration; publications = w.publications; drafts = w.drafts; fleets = fleets }

-- ---- the operator's own step, whatever its rows are

module _ (w : State) (request : Request) (place : ℕ) (operator : Operator) (rows old : Rows) (whose : actor_of w.configuration request.token ≡ OperatorAt place) (found : slice_get w.configuration.operators place ≡ Some operator) (held : slice_get w.fleets place ≡ Some old) where
  abbrev given : State
  given = with_rows w place rows

  abbrev SameAs : Result (Reply × Rows) Code → Reply × State → Type 0
  SameAs does s = ((settled rows does).0 ≡ s.0) × (with_rows w place (settled rows does).1 ≡ s.1)

  lifted_same : (does : Result (Reply × Rows) Code) → SameAs does (lifted given place does)
  lifted_same (Err code) = (refl, refl)
  lifted_same (Ok after) = (refl, ap (with_fleets w) (sym (set-set w.fleets place rows after.1)))

  abbrev Own : Result Call Code → Reply × State → Type 0
  Own called s =
      SameAs (called >>= own_call >>= λ own. operator_does w.configuration.zone operator w.publications rows own request) s

  own_operator : (own : OperatorCall) → Own (Ok (call.Operator place own)) (call_step given (Ok (call.Operator place own)) request)
  own_operator own =
      subst (λ f. Own (Ok (call.Operator place own)) (operator_step given place f (slice_get given.fleets place) own request)) (sym found)
      (subst (λ h. Own (Ok (call.Operator place own)) (operator_step given place (Some operator) h own request)) (sym (set_here w.fleets place old rows held))
      (lifted_same (operator_does w.configuration.zone operator w.publications rows own request)))

  own_moved : (called : Result Call Code) → IsBy (OperatorAt place) called → Own called (call_step given called request)
  own_moved (Err code) by = (refl, refl)
  own_moved (Ok (call.Author own)) by = absurd by
  own_moved (Ok (call.Operator at own)) by =
      subst (λ x. Own (Ok (call.Operator x own)) (call_step given (Ok (call.Operator x own)) request)) (sym by) (own_operator own)

  pub own_moves : let own = own_step w.configuration operator w.publications rows request in Step (with_rows w place rows) request own.0 (with_rows w place own.1)
  own_moves = inl (own_moved (call_of w.configuration request) (own_by w request place whose))

-- ---- the steps of others

module _ (w : State) (request : Request) (place : ℕ) (rows : Rows) where
  abbrev Same : Reply × State → Reply × State → Type 0
  Same s t = (s.0 ≡ t.0) × (with_rows s.1 place rows ≡ t.1)

  author_moves : (does : Result (Reply × (Drafts × List Publication)) Code) → Same (authored w does) (authored (with_rows w place rows) does)
  author_moves (Err code) = (refl, refl)
  author_moves (Ok after) = (refl, refl)

  lifted_moves : (other : ℕ) (does : Result (Reply × Rows) Code) → place ≢ other → Same (lifted w other does) (lifted (with_rows w place rows) other does)
  lifted_moves other (Err code) apart = (refl, refl)
  lifted_moves other (Ok after) apart = (refl, ap (with_fleets w) (sym (set_comm w.fleets place other rows after.1 apart)))

  operator_moves : (other : ℕ) (found : Option Operator) (held : Option Rows) (own : OperatorCall) → place ≢ other → Same (operator_step w other found held own request) (operator_step (with_rows w place rows) other found held own request)
  operator_moves other None held own apart = (refl, refl)
  operator_moves other (Some operator) None own apart = (refl, refl)
  operator_moves other (Some operator) (Some had) own apart =
      lifted_moves other (operator_does w.configuration.zone operator w.publications had own request) apart

  elsewhere : (actor : Actor) (other : ℕ) (own : OperatorCall) → IsBy actor (Ok (call.Operator other own)) → is_place place actor ≡ false → place ≢ other
  elsewhere Author other own by is = absurd by
  elsewhere (OperatorAt at) other own by is = λ here. eqb-false place at is (here ∙ by)
  elsewhere Nobody other own by is = absurd by

  call_moves : (actor : Actor) (called : Result Call Code) → IsBy actor called → is_place place actor ≡ false → Same (call_step w called request) (call_step (with_rows w place rows) called request)
  call_moves actor (Err code) by is = (refl, refl)
  call_moves actor (Ok (call.Author own)) by is = author_moves (author_does w.drafts w.publications own request)
  call_moves actor (Ok (call.Operator other own)) by is =
      let apart : place ≢ other = elsewhere actor other own by is in
      subst (λ h. Same (call_step w (Ok (call.Operator other own)) request) (operator_step (with_rows w place rows) other (slice_get w.configuration.operators other) h own request))
      (sym (set_there w.fleets place other rows (λ same. apart (sym same))))
      (operator_moves other _ _ own apart)

  -- a step of another client is a step whatever the operator's rows are
  pub others_move : (reply : Reply) (next : State) → is_of w.configuration place request ≡ false → Step w request reply next → Step (with_rows w place rows) request reply (with_rows next place rows)
  others_move reply next is step =
      let same = call_moves (actor_of w.configuration request.token) (call_of w.configuration request) (call_by w.configuration request) is in
      elim step [
        | inl a ↦ inl (a.0 ∙ same.0, ap (λ s. with_rows s place rows) a.1 ∙ same.1)
        | inr a ↦ inr (record { fits = a.0.fits; known = a.0.known }, a.1, ap (λ s. with_rows s place rows) a.2)
      ]
