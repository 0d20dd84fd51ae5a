-- What changes something is answered with a success, so that any other reply keeps the state.
use Rattle.std.proofs.Common.{◌≡◌, ◌≢◌, ℕ, Bool, true, false, cond, List, Option, Some, None, Result, Ok, Err, inl, inr, refl, ap, ◌∙◌}
use Rattle.std.specs.List.{slice_get}
use Rattle.std.specs.FinMap.{get}
use Rattle.std.specs.Option.{is_some}
use Rattle.mds_match.specs.declared.zone.Zone.{Zone}
use Rattle.mds_catalog.specs.Publication.{Publication, find_policy, find_geography, is_in_force}
use Rattle.mds_drafts.specs.Drafts.{Drafts, draft_at, has_draft, put_answer}
use Rattle.mds_fleet.specs.Books.{Rows, outcome}
use Rattle.mds_fleet.specs.Reading.{read_report}
use Rattle.mds_request.specs.Configuration.{Operator}
use Rattle.mds_request.specs.Call.{call_of}
use Rattle.mds_request.specs.Request.{Request}
use Rattle.mds_request.specs.Reply.{Reply}
use Rattle.mds_request.specs.declared.call.AuthorCall.{AuthorCall}
use Rattle.mds_request.specs.declared.call.AuthorCall.TheVariants as author
use Rattle.mds_request.specs.declared.call.OperatorCall.{OperatorCall}
use Rattle.mds_request.specs.declared.call.OperatorCall.TheVariants as operators
use Rattle.mds_request.specs.declared.call.Call.{Call}
use Rattle.mds_request.specs.declared.call.Call.TheVariants as call
use Rattle.mds_request.specs.declared.code.Code.{Code}
use Rattle.mds_request.specs.declared.code.Code.TheVariants.{Token, NoDraft, NotFound}
use Rattle.mds_machine.specs.Answer.{settled, coded, or_code, if_it, leaving, ◌>>=◌}
use Rattle.mds_machine.specs.Author.{author_does, document_of, under, put_draft, drop_draft, draft_answer, publication_asked}
use Rattle.mds_machine.specs.Codes.{fault_code, book_code, put_code}
use Rattle.mds_machine.specs.Operator.{operator_does, policy_compliance_answer}
use Rattle.mds_machine.specs.Published.{is_shown, policy_answer, geography_answer}
use Rattle.mds_machine.specs.Laws.{RefusedLeaves}
use Rattle.mds_machine.specs.Step.{State, call_does, does}

-- a success has status 200
abbrev Tells : Result Reply Code → Type 0
Tells (Ok reply) = reply.status ≡ 200
Tells (Err code) = Unit {0}

abbrev pub Succeeds : {S : Type 0} → Result (Reply × S) Code → Type 0
Succeeds (Ok after) = after.0.status ≡ 200
Succeeds (Err code) = Unit {0}

tells_on : {A : Type 0} (x : Result A Code) (f : A → Result Reply Code) → ((a : A) → Tells (f a)) → Tells (x >>= f)
tells_on (Ok a) f h = h a
tells_on (Err code) f h = tt

pub succeeds_on : {A S : Type 0} (x : Result A Code) (f : A → Result (Reply × S) Code) → ((a : A) → Succeeds (f a)) → Succeeds (x >>= f)
succeeds_on (Ok a) f h = h a
succeeds_on (Err code) f h = tt

succeeds_if : {S : Type 0} (b : Bool) (after : Reply × S) (code : Code) → after.0.status ≡ 200 → Succeeds (cond b (Ok after) (Err code))
succeeds_if true after code h = h
succeeds_if false after code h = tt

leaving_succeeds : {S : Type 0} (old : S) (answer : Result Reply Code) → Tells answer → Succeeds (answer >>= leaving old)
leaving_succeeds old (Ok reply) h = h
leaving_succeeds old (Err code) h = tt

-- the same, with another state
carried : {S T : Type 0} (f : Reply × S → T) (x : Result (Reply × S) Code) → Succeeds x → Succeeds (x >>= λ after. Ok (after.0, f after))
carried f (Ok after) h = h
carried f (Err code) h = tt

policy_tells : (publications : List Publication) (reader : Option (List ℕ)) (id : List ℕ) → Tells (policy_answer publications reader id)
policy_tells publications reader id =
    tells_on (or_code NotFound (find_policy publications id)) _
    (λ found. tells_on (if_it NotFound (is_shown reader) found) _ (λ shown. refl))

geography_tells : (publications : List Publication) (id : List ℕ) → Tells (geography_answer publications id)
geography_tells publications id = tells_on (or_code NotFound (find_geography publications id)) _ (λ found. refl)

pub operator_succeeds : (zone : Zone) (operator : Operator) (publications : List Publication) (rows : Rows) (own : OperatorCall) (request : Request) → Succeeds (operator_does zone operator publications rows own request)
operator_succeeds zone operator publications rows operators.Policies request = refl
operator_succeeds zone operator publications rows (operators.Policy id) request =
    leaving_succeeds rows (policy_answer publications (Some operator.id) id) (policy_tells publications (Some operator.id) id)
operator_succeeds zone operator publications rows operators.Geographies request = refl
operator_succeeds zone operator publications rows (operators.Geography id) request =
    leaving_succeeds rows (geography_answer publications id) (geography_tells publications id)
operator_succeeds zone operator publications rows operators.Report request =
    succeeds_on (coded fault_code (read_report request.body)) _
    (λ report. succeeds_on (coded book_code (outcome rows operator.limit report request.at)) _ (λ taken. refl))
operator_succeeds zone operator publications rows operators.Vehicles request = refl
operator_succeeds zone operator publications rows (operators.RemoveVehicle device) request = succeeds_if (is_some (get rows device)) _ _ refl
operator_succeeds zone operator publications rows operators.Compliance request = refl
operator_succeeds zone operator publications rows (operators.PolicyCompliance id) request =
    leaving_succeeds rows (policy_compliance_answer zone operator publications rows request.at id)
    (tells_on (or_code NotFound (find_policy publications id)) _
    (λ found. tells_on (if_it NotFound (is_in_force publications operator.id request.at) found) _ (λ binding. refl)))

author_succeeds : (drafts : Drafts) (publications : List Publication) (own : AuthorCall) (request : Request) → Succeeds (author_does drafts publications own request)
author_succeeds drafts publications author.Policies request = refl
author_succeeds drafts publications (author.Policy id) request =
    leaving_succeeds (drafts, publications) (policy_answer publications None id) (policy_tells publications None id)
author_succeeds drafts publications author.Geographies request = refl
author_succeeds drafts publications (author.Geography id) request =
    leaving_succeeds (drafts, publications) (geography_answer publications id) (geography_tells publications id)
author_succeeds drafts publications (author.PutDraft kind id) request =
    carried (λ after. (after.1, publications)) (put_draft drafts kind id request.body)
    (succeeds_on (document_of kind request.body) _ (λ read. succeeds_on (under id read) _
    (λ document. succeeds_on (coded put_code (put_answer drafts document)) _ (λ put. refl))))
author_succeeds drafts publications (author.Draft kind id) request =
    leaving_succeeds (drafts, publications) (draft_answer drafts kind id) (tells_on (or_code NoDraft (draft_at drafts kind id)) _ (λ document. refl))
author_succeeds drafts publications (author.DropDraft kind id) request =
    carried (λ after. (after.1, publications)) (drop_draft drafts kind id) (succeeds_if (has_draft drafts kind id) _ _ refl)
author_succeeds drafts publications author.Publish request = succeeds_on (publication_asked drafts publications request) _ (λ p. refl)

pub call_succeeds : (w : State) (called : Call) (request : Request) → Succeeds (call_does w called request)
call_succeeds w (call.Author own) request = carried _ (author_does w.drafts w.publications own request) (author_succeeds w.drafts w.publications own request)
call_succeeds w (call.Operator place own) request =
    succeeds_on (or_code Token (slice_get w.configuration.operators place)) _ (λ operator. succeeds_on (or_code Token (slice_get w.fleets place)) _ (λ rows.
    carried _ (operator_does w.configuration.zone operator w.publications rows own request) (operator_succeeds w.configuration.zone operator w.publications rows own request)))

pub settled_leaves : {S : Type 0} (old : S) (x : Result (Reply × S) Code) → Succeeds x → (settled old x).0.status ≢ 200 → (settled old x).1 ≡ old
settled_leaves old (Ok after) h failed = absurd (failed h)
settled_leaves old (Err code) h failed = refl

pub refused_leaves : RefusedLeaves
refused_leaves w request reply next step failed = elim step [
  | inl a ↦ a.1 ∙ settled_leaves w (does w request)
      (succeeds_on (call_of w.configuration request) _ (λ called. call_succeeds w called request)) (λ is. failed (ap (λ r. r.status) a.0 ∙ is))
  | inr a ↦ a.2
]
