-- What a desk and the author's room do with a request that is resolved: to its call, or to its first refusal.
use Rattle.std.proofs.Common.{◌≡◌, ◌≢◌, ℕ, List, true, false, cond, Ok, Err, refl, sym, ap, ◌∙◌}
use Rattle.std.proofs.lemmas.Bool.{eq-eqb, ne_eqb}
use Rattle.mds_catalog.specs.Publication.{Publication}
use Rattle.mds_drafts.specs.Drafts.{Drafts}
use Rattle.mds_fleet.specs.Books.{Rows}
use Rattle.mds_request.specs.Call.{call_of}
use Rattle.mds_request.specs.Configuration.{Configuration, Operator, actor_of}
use Rattle.mds_request.specs.Request.{Request}
use Rattle.mds_request.specs.Reply.{refused}
use Rattle.mds_request.specs.declared.call.AuthorCall.{AuthorCall}
use Rattle.mds_request.specs.declared.call.OperatorCall.{OperatorCall}
use Rattle.mds_request.specs.declared.call.Call.{Call}
use Rattle.mds_request.specs.declared.call.Call.TheVariants as call
use Rattle.mds_request.specs.declared.code.Code.{Code}
use Rattle.mds_request.specs.declared.code.Code.TheVariants.{Token}
use Rattle.mds_request.specs.declared.config.Actor.TheVariants as actor
use Rattle.mds_request.proofs.Callers.{call_of-caller, caller}
use Rattle.mds_machine.specs.Answer.{settled, ◌>>=◌}
use Rattle.mds_machine.specs.Author.{author_does}
use Rattle.mds_machine.specs.Meaning.{own_call, own_step}
use Rattle.mds_machine.specs.Operator.{operator_does}
use Rattle.mds_machine.specs.Views.{is_of, is_place}
use Rattle.mds_machine.specs.Desks.{desk_does, refusal_of}
use Rattle.mds_machine.specs.Room.{authors_call, is_authors, is_the_author, room_does}
use Rattle.mds_desk.specs.Desk.{IsRefusedAt}
use Rattle.mds_desk.specs.Room.{IsRefusedInRoom}

module _ (configuration : Configuration) (request : Request) where
  -- at the desk of the operator at a place
  module _ (place : ℕ) where
    own_at : (operator : Operator) (front : List Publication) (rows : Rows) → is_of configuration place request ≡ true
        → desk_does configuration place operator front rows request ≡ own_step configuration operator front rows request
    own_at operator front rows is =
        ap (λ b. cond b (own_step configuration operator front rows request) (refused (refusal_of (call_of configuration request)), rows)) is

    another_at : (operator : Operator) (front : List Publication) (rows : Rows) → is_of configuration place request ≡ false
        → desk_does configuration place operator front rows request ≡ (refused (refusal_of (call_of configuration request)), rows)
    another_at operator front rows is =
        ap (λ b. cond b (own_step configuration operator front rows request) (refused (refusal_of (call_of configuration request)), rows)) is

    pub is_its : actor_of configuration request.token ≡ actor.Operator place → is_of configuration place request ≡ true
    is_its asks = ap (is_place place) asks ∙ eq-eqb place place refl

    -- a call of its operator does there what the call is defined to do
    pub desk_calls : (own : OperatorCall) → call_of configuration request ≡ Ok (call.Operator place own) → (operator : Operator) (front : List Publication) (rows : Rows)
        → desk_does configuration place operator front rows request ≡ settled rows (operator_does configuration.zone operator front rows own request)
    desk_calls own resolved operator front rows =
        own_at operator front rows (is_its (call_of-caller configuration request (call.Operator place own) resolved))
        ∙ ap (λ r. settled rows (r >>= own_call >>= λ own. operator_does configuration.zone operator front rows own request)) resolved

    -- a call of another client is refused there
    another_calls : (given : Call) → call_of configuration request ≡ Ok given → is_place place (caller given) ≡ false → IsRefusedAt configuration place request Token
    another_calls given resolved other operator front rows =
        another_at operator front rows (ap (is_place place) (call_of-caller configuration request given resolved) ∙ other)
        ∙ ap (λ r. (refused (refusal_of r), rows)) resolved

    pub operator_elsewhere : (client : ℕ) (own : OperatorCall) → call_of configuration request ≡ Ok (call.Operator client own) → client ≢ place → IsRefusedAt configuration place request Token
    operator_elsewhere client own resolved other = another_calls (call.Operator client own) resolved (ne_eqb place client (λ same. other (sym same)))

    pub author_elsewhere : (own : AuthorCall) → call_of configuration request ≡ Ok (call.Author own) → IsRefusedAt configuration place request Token
    author_elsewhere own resolved = another_calls (call.Author own) resolved refl

    -- what the table of calls refuses is refused there: its operator's with the same code
    pub desk_refuses : (code : Code) → call_of configuration request ≡ Err code → is_of configuration place request ≡ true → IsRefusedAt configuration place request code
    desk_refuses code resolved is operator front rows =
        own_at operator front rows is ∙ ap (λ r. settled rows (r >>= own_call >>= λ own. operator_does configuration.zone operator front rows own request)) resolved

    pub desk_refuses_another : (code : Code) → call_of configuration request ≡ Err code → is_of configuration place request ≡ false → IsRefusedAt configuration place request (refusal_of (Err code))
    desk_refuses_another code resolved is operator front rows = another_at operator front rows is ∙ ap (λ r. (refused (refusal_of r), rows)) resolved

  -- in the author's room
  room_own : (held : Drafts × List Publication) → is_authors configuration request ≡ true
      → room_does configuration held request ≡ (call_of configuration request >>= authors_call >>= λ call. author_does held.0 held.1 call request)
  room_own held is =
      ap (λ b. cond b (call_of configuration request >>= authors_call >>= λ call. author_does held.0 held.1 call request) (Err (refusal_of (call_of configuration request)))) is

  room_another : (held : Drafts × List Publication) → is_authors configuration request ≡ false
      → room_does configuration held request ≡ Err (refusal_of (call_of configuration request))
  room_another held is =
      ap (λ b. cond b (call_of configuration request >>= authors_call >>= λ call. author_does held.0 held.1 call request) (Err (refusal_of (call_of configuration request)))) is

  -- a call of the author does there what the call is defined to do
  pub room_calls : (own : AuthorCall) → call_of configuration request ≡ Ok (call.Author own) → (held : Drafts × List Publication)
      → room_does configuration held request ≡ author_does held.0 held.1 own request
  room_calls own resolved held =
      room_own held (ap is_the_author (call_of-caller configuration request (call.Author own) resolved))
      ∙ ap (λ r. r >>= authors_call >>= λ own. author_does held.0 held.1 own request) resolved

  -- a call of an operator is refused there
  pub operator_in_room : (client : ℕ) (own : OperatorCall) → call_of configuration request ≡ Ok (call.Operator client own) → IsRefusedInRoom configuration request Token
  operator_in_room client own resolved held =
      room_another held (ap is_the_author (call_of-caller configuration request (call.Operator client own) resolved))
      ∙ ap (λ r. Err (refusal_of r)) resolved

  -- what the table of calls refuses is refused there: the author's with the same code
  pub room_refuses : (code : Code) → call_of configuration request ≡ Err code → is_authors configuration request ≡ true → IsRefusedInRoom configuration request code
  room_refuses code resolved is held = room_own held is ∙ ap (λ r. r >>= authors_call >>= λ own. author_does held.0 held.1 own request) resolved

  pub room_refuses_another : (code : Code) → call_of configuration request ≡ Err code → is_authors configuration request ≡ false → IsRefusedInRoom configuration request (refusal_of (Err code))
  room_refuses_another code resolved is held = room_another held is ∙ ap (λ r. Err (refusal_of r)) resolved
