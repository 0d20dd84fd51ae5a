-- What calls do to what is held.
use Rattle.std.proofs.Common.{◌≡◌, ◌<◌, ℕ, List, [], map, length, get_or, Option, Some, None, Result, Ok, Err, inl, inr, refl, sym, ap, ◌∙◌, arith}
use Rattle.std.specs.List.{slice_get}
use Rattle.std.specs.Option.{option_map, option_map_or, IfSome}
use Rattle.std.proofs.lemmas.List.{length-map}
use Rattle.std.proofs.lemmas.Option.{slice_get-map, slice_get-get_or}
use Rattle.mds_fleet.specs.Books.{Rows}
use Rattle.mds_request.specs.Call.{call_of}
use Rattle.mds_request.specs.Configuration.{Operator, operator}
use Rattle.mds_request.specs.declared.config.Operator.{Operator as Named}
use Rattle.mds_request.specs.Reply.{Reply, refused}
use Rattle.mds_request.specs.Request.{Request}
use Rattle.mds_request.specs.declared.call.Call.{Call}
use Rattle.mds_request.specs.declared.call.Call.TheVariants as call
use Rattle.mds_request.specs.declared.call.OperatorCall.{OperatorCall}
use Rattle.mds_request.specs.declared.code.Code.{Code}
use Rattle.mds_request.specs.declared.code.Code.TheVariants.{NoMemory, Token}
use Rattle.mds_machine.specs.Answer.{Gives, or_code, settled, ◌>>=◌}
use Rattle.mds_machine.specs.Operator.{operator_does}
use Rattle.journal_samples.specs.Samples.{samples_at, samples_for}
use Rattle.journal_samples.specs.Standing.{Standing, after_request, call_does, operator_of, with_rows}
use Rattle.journal_samples.specs.declared.sample.RuleSample.{RuleSample}

-- an outcome for a part of the state is one for the state, whose rest doesn't change
pub lifted : {S T : Type 0} (into : S → T) (old new : S) (whole : T) (defined : Result (Reply × S) Code) (reply : Reply) → into old ≡ whole
    → Gives (Unit {0}) old defined reply new → Gives (Unit {0}) whole (defined >>= λ after. Ok (after.0, into after.1)) reply (into new)
lifted into old new whole (Ok after) reply is h = elim h [
  | inl k ↦ inl (k.0, ap into k.1)
  | inr k ↦ inr (tt, k.1, ap into k.2 ∙ is)
]
lifted into old new whole (Err code) reply is h = elim h [
  | inl k ↦ inl (k.0, ap into k.1 ∙ is)
  | inr k ↦ inr (tt, k.1, ap into k.2 ∙ is)
]

abbrev own_does : Standing → Option Operator → OperatorCall → Request → Result (Reply × Standing) Code
own_does s operator own request = do
  o ← or_code Token operator
  after ← operator_does s.configuration.zone o s.publications s.rows own request
  Ok (after.0, with_rows s after.1)

-- what an operator's call does to its rows, it does to what is held
pub own : (s : Standing) (operator : Option Operator) (limit : ℕ) (new : Rows) (called : OperatorCall) (request : Request) (reply : Reply)
    → Some limit ≡ option_map (λ o. o.limit) operator
    → IfSome operator (λ o. Gives (Unit {0}) s.rows (operator_does s.configuration.zone o s.publications s.rows called request) reply new)
    → Gives (Unit {0}) s (own_does s operator called request) reply (with_rows s new)
own s None limit new called request reply there h = absurd (cc)
own s (Some o) limit new called request reply there h =
    lifted (with_rows s) s.rows new s (operator_does s.configuration.zone o s.publications s.rows called request) reply refl h

-- a success is the defined one
pub succeeded : {S : Type 0} {M : Type 0} (old new : S) (defined : Result (Reply × S) Code) (reply : Reply) → reply.status ≡ 200
    → Gives M old defined reply new → new ≡ (settled old defined).1
succeeded old new defined reply ok h = elim h [
  | inl k ↦ k.1
  | inr k ↦ absurd (let status : 503 ≡ 200 = ap (λ (r : Reply). r.status) (sym k.1) ∙ ok in omega (arith, status))
]

-- an answer with success leaves what is defined
pub answered : (s new : Standing) (request : Request) (called : Call) (reply : Reply) → call_of s.configuration request ≡ Ok called
    → reply.status ≡ 200 → Gives (Unit {0}) s (call_does s called request) reply new → new ≡ after_request s request
answered s new request called reply is ok h =
    succeeded s new (call_does s called request) reply ok h
    ∙ ap (λ c. (settled s (c >>= λ called. call_does s called request)).1) (sym is)

-- the operator at a place of the configuration
pub placed : (named : List Named) (operators : List Operator) (place : ℕ) (o : Named) → map operator named ≡ operators → place < length operators
    → o ≡ get_or named place o
    → slice_get operators place ≡ Some (operator o)
placed named operators place o all within here =
    let same : length named ≡ length operators = sym (length-map named operator) ∙ ap length all in
    ap (λ xs. slice_get xs place) (sym all) ∙ slice_get-map operator named place
    ∙ ap (option_map operator) (slice_get-get_or named place o (omega (arith, within, same)) ∙ ap (λ x. Some x) (sym here))

-- the samples of the operator with this identifier
pub sampled : (s : Standing) (t : ℕ) (id : List ℕ) (operator : Option Operator) → Some id ≡ option_map (λ o. o.id) operator
    → option_map_or (λ o. samples_for s t o.id) operator [] ≡ samples_for s t id
sampled s t id None named = absurd (cc)
sampled s t id (Some o) named = let same : o.id ≡ id = cc in ap (samples_for s t) same
