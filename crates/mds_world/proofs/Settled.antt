-- From the results of a call's parts to the call, the state and the machine's step.
use Rattle.std.proofs.Common.{◌≡◌, ◌≢◌, Result, Ok, Err, inl, inr, sym, ap, ◌∙◌}
use Rattle.mds_request.specs.Reply.{Reply, refused}
use Rattle.mds_request.specs.Request.{Request}
use Rattle.mds_request.specs.declared.code.Code.{Code}
use Rattle.mds_request.specs.declared.code.Code.TheVariants.{TooLarge, Token}
use Rattle.mds_machine.specs.Answer.{settled, Gives, ◌>>=◌}
use Rattle.mds_request.specs.Call.{call_of}
use Rattle.mds_request.specs.declared.call.Call.{Call}
use Rattle.mds_machine.specs.Step.{State, Step, does, call_does}
use Rattle.mds_world.specs.Denied.{denial, Denies, code_of}
use Rattle.mds_world.specs.declared.call_fault.CallFault.{CallFault}
use Rattle.mds_world.specs.declared.call_fault.CallFault.TheVariants.{Refused, Exhausted}

-- a defined success
pub done : {S : Type 0} (old : S) (defined : Result (Reply × S) Code) (outcome : Reply × S) → defined ≡ Ok outcome → Gives (Unit {0}) old defined outcome.0 outcome.1
done old defined outcome is = inl (sym (ap (λ d. (settled old d).0) is), sym (ap (λ d. (settled old d).1) is))

-- a defined refusal, or out of memory
pub denied : {S : Type 0} (old new : S) (defined : Result (Reply × S) Code) (why : CallFault) (reply : Reply) → Denies (denial why) defined → new ≡ old → reply ≡ refused (code_of why) → Gives (Unit {0}) old defined reply new
denied old new defined (Refused code) reply is same said =
    inl (said ∙ sym (ap (λ d. (settled old d).0) is), same ∙ sym (ap (λ d. (settled old d).1) is))
denied old new defined Exhausted reply is same said = inr (tt, said, same)

-- an outcome for a part of the state is one for the state, whose rest doesn't change
pub lifted : {S T : Type 0} (into : S → T) (old new : S) (whole : T) (defined : Result (Reply × S) Code) (reply : Reply) → into old ≡ whole → Gives (Unit {0}) old defined reply new → Gives (Unit {0}) whole (defined >>= λ after. Ok (after.0, into after.1)) reply (into new)
lifted into old new whole (Ok after) reply is h = elim h [
  | inl k ↦ inl (k.0, ap into k.1)
  | inr k ↦ inr (tt, k.1, ap into k.2 ∙ is)
]
lifted into old new whole (Err code) reply is h = elim h [
  | inl k ↦ inl (k.0, ap into k.1 ∙ is)
  | inr k ↦ inr (tt, k.1, ap into k.2 ∙ is)
]

present≢too_large : (call : Call) → ◌≢◌ {A = Result Call Code} (Ok call) (Err TooLarge)
present≢too_large call h = absurd (cc)

present≢token : (call : Call) → ◌≢◌ {A = Result Call Code} (Ok call) (Err Token)
present≢token call h = absurd (cc)

-- the outcome of a request's call is a step
pub stepped : (w next : State) (request : Request) (reply : Reply) (call : Call) → call_of w.configuration request ≡ Ok call → Gives (Unit {0}) w (call_does w call request) reply next → Step w request reply next
stepped w next request reply call is h =
    let as_defined : does w request ≡ call_does w call request = ap (λ c. c >>= λ call. call_does w call request) is in
    elim h [
      | inl k ↦ inl (k.0 ∙ ap (λ d. (settled w d).0) (sym as_defined), k.1 ∙ ap (λ d. (settled w d).1) (sym as_defined))
      | inr k ↦ inr (
        record {
          fits = λ r. present≢too_large call (sym is ∙ r);
          known = λ r. present≢token call (sym is ∙ r);
        },
        k.1,
        k.2,
      )
    ]

-- a request without a call is refused
pub unanswered : (w next : State) (request : Request) (reply : Reply) (code : Code) → call_of w.configuration request ≡ Err code → reply ≡ refused code → next ≡ w → Step w request reply next
unanswered w next request reply code is said same =
    let as_defined : does w request ≡ Err code = ap (λ c. c >>= λ call. call_does w call request) is in
    inl (said ∙ ap (λ d. (settled w d).0) (sym as_defined), same ∙ ap (λ d. (settled w d).1) (sym as_defined))
