-- A turn of a desk, put together.
use mathlib.Core.List.{IsPrefix}
use Rattle.std.proofs.Common.{◌≡◌, ◌⊎◌, ℕ, List, [], Option, Some, None, IfSome, Ok, inl, inr, refl, sym, ap, subst, ◌∙◌}
use Rattle.std.specs.List.{slice_get}
use Rattle.std.proofs.lemmas.List.{append-nil}
use Rattle.mds_catalog.specs.Publication.{Publication}
use Rattle.mds_fleet.specs.Books.{Rows}
use Rattle.mds_request.specs.Call.{call_of}
use Rattle.mds_request.specs.Configuration.{Configuration, Operator}
use Rattle.mds_request.specs.Request.{Request}
use Rattle.mds_request.specs.Reply.{Reply, refused}
use Rattle.mds_request.specs.declared.call.OperatorCall.{OperatorCall}
use Rattle.mds_request.specs.declared.call.Call.TheVariants as call
use Rattle.mds_request.specs.declared.code.Code.{Code}
use Rattle.mds_request.specs.declared.code.Code.TheVariants.{NoMemory, NoSnapshot}
use Rattle.mds_machine.specs.Answer.{Gives}
use Rattle.mds_machine.specs.Operator.{operator_does}
use Rattle.mds_machine.specs.Desks.{desk_does}
use Rattle.mds_desk.specs.Desk.{DeskState, IsRefusedAt, TakesTurn}
use Rattle.mds_desk.proofs.Resolved.{desk_calls}

module _ (configuration : Configuration) (place : ℕ) (known : List Publication) (rows : Rows) (request : Request) where
  abbrev desk : List Publication → Rows → DeskState
  desk front after = record { configuration = configuration; place = place; known = front; rows = after }

  -- the answer at the front of a snapshot
  abbrev Answered : List Publication → Reply → Rows → Operator → Type 0
  Answered front reply after operator =
      let does = desk_does configuration place operator front rows request in
      ((reply ≡ does.0) × (after ≡ does.1)) ⊎ ((reply ≡ refused NoMemory) × (after ≡ rows))

  -- the outcome of a call of the desk's operator at that front
  abbrev pub Given : OperatorCall → List Publication → Reply → Rows → Operator → Type 0
  Given own front reply after operator = Gives (Unit {0}) rows (operator_does configuration.zone operator front rows own request) reply after

  answered : (own : OperatorCall) → call_of configuration request ≡ Ok (call.Operator place own) → (front : List Publication) (reply : Reply) (after : Rows) (operator : Operator)
      → Given own front reply after operator → Answered front reply after operator
  answered own resolved front reply after operator given =
      let same = desk_calls configuration request place own resolved operator front rows in
      elim given [
        | inl a ↦ inl (a.0 ∙ sym (ap (λ d. d.0) same), a.1 ∙ sym (ap (λ d. d.1) same))
        | inr a ↦ inr (a.1, a.2)
      ]

  at_some : (own : OperatorCall) → call_of configuration request ≡ Ok (call.Operator place own) → (front : List Publication) (reply : Reply) (after : Rows) (found : Option Operator) (operator : Operator)
      → IfSome found (Given own front reply after) → found ≡ Some operator → Answered front reply after operator
  at_some own resolved front reply after None operator h is = absurd (cc)
  at_some own resolved front reply after (Some o) operator h is =
      subst (Answered front reply after) (let same : o ≡ operator = cc in same) (answered own resolved front reply after o h)

  -- a call of the desk's operator is carried out at the front of a snapshot
  pub looked : (own : OperatorCall) → call_of configuration request ≡ Ok (call.Operator place own) → (shown front : List Publication) (reply : Reply) (after : Rows) → IsPrefix known front → shown ≡ front
      → IfSome (slice_get configuration.operators place) (Given own shown reply after) → TakesTurn (desk known rows) request reply (desk front after)
  looked own resolved shown front reply after begins same h =
      let all : (operator : Operator) → slice_get configuration.operators place ≡ Some operator → Answered front reply after operator =
      λ operator found. at_some own resolved front reply after (slice_get configuration.operators place) operator
      (subst (λ f. IfSome (slice_get configuration.operators place) (Given own f reply after)) same h) found in
      record {
        same = record { configuration = refl; place = refl };
        turn = λ operator found. record {
          begins = begins;
          answer = elim (all operator found) [
            | inl a ↦ inl a
            | inr a ↦ inr (inr a.0, a.1)
          ];
        };
        shown = inr all;
      }

  pub not_looked : (front : List Publication) (reply : Reply) → front ≡ known → reply ≡ refused NoSnapshot → TakesTurn (desk known rows) request reply (desk front rows)
  not_looked front reply same is =
      record {
        same = record { configuration = refl; place = refl };
        turn = λ operator found. record {
          begins = ([], append-nil known ∙ sym same);
          answer = inr (inl is, refl);
        };
        shown = inl (is, ap (λ f. desk f rows) same);
      }

-- a request that the desk refuses at any front is a turn at the front that it knows, and doesn't change the desk
pub refused_turn : (d : DeskState) (request : Request) (reply : Reply) (code : Code) → IsRefusedAt d.configuration d.place request code → reply ≡ refused code → TakesTurn d request reply d
refused_turn d request reply code refuses is =
    let all : (operator : Operator) → ((reply ≡ (desk_does d.configuration d.place operator d.known d.rows request).0) × (d.rows ≡ (desk_does d.configuration d.place operator d.known d.rows request).1)) =
    λ operator. let same = refuses operator d.known d.rows in (is ∙ sym (ap (λ d. d.0) same), sym (ap (λ d. d.1) same)) in
    record {
      same = record { configuration = refl; place = refl };
      turn = λ operator found. record { begins = ([], append-nil d.known); answer = inl (all operator) };
      shown = inr (λ operator found. inl (all operator));
    }
