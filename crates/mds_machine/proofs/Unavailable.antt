-- The machine answers 503 for want of memory alone: no other refusal of a call has that status.
use Rattle.std.proofs.Common.{◌≡◌, ℕ, Bool, true, false, cond, List, [], ◌∷◌, Option, Some, None, Result, Ok, Err, inl, inr, refl, sym, ap, ◌∙◌}
use Rattle.std.specs.Prelude.{◌==◌, nat_lt, length, bytes_eq}
use Rattle.std.specs.List.{slice_get}
use Rattle.std.specs.FinMap.{get}
use Rattle.std.specs.Option.{is_some}
use Rattle.std.proofs.lemmas.Bool.{false≢true}
use Rattle.mds_text.specs.Fault.{Fault, bad_json, bad_field, bad_number, out_of_range, decimal, too_many_rules, too_many_points, ring_short, ring_open, too_many_operators, bad_zone, alike}
use Rattle.mds_text.specs.declared.draft_kind.DraftKind.{DraftKind}
use Rattle.mds_text.specs.declared.draft_kind.DraftKind.TheVariants as kinds
use Rattle.mds_match.specs.declared.zone.Zone.{Zone}
use Rattle.mds_catalog.specs.Publication.{Publication, find_policy, find_geography, is_in_force}
use Rattle.mds_drafts.specs.Drafts.{Drafts, id_of, draft_at, has_draft, put_answer}
use Rattle.mds_drafts.specs.Named.{read_publish_list}
use Rattle.mds_drafts.specs.Publishing.{batch_of}
use Rattle.mds_drafts.specs.declared.drafts.PutFault.{PutFault}
use Rattle.mds_drafts.specs.declared.drafts.PutFault.TheVariants as put
use Rattle.mds_drafts.specs.declared.publish.PublishFault.{PublishFault}
use Rattle.mds_drafts.specs.declared.publish.PublishFault.TheVariants as publish
use Rattle.mds_fleet.specs.Books.{Rows, outcome}
use Rattle.mds_fleet.specs.Reading.{read_report}
use Rattle.mds_fleet.specs.declared.book.BookFault.{BookFault}
use Rattle.mds_fleet.specs.declared.book.BookFault.TheVariants as book
use Rattle.mds_geography.specs.Reading.{read_geography}
use Rattle.mds_policy.specs.Reading.{read_policy}
use Rattle.mds_request.specs.Call.{Row, call_of, call_with, call_among, called_at, id_in, is_verb, made, rows_at, segments_of}
use Rattle.mds_request.specs.Code.{status_of}
use Rattle.mds_request.specs.Configuration.{Configuration, Operator, actor_of}
use Rattle.mds_request.specs.Request.{Request}
use Rattle.mds_request.specs.Reply.{Reply, refused}
use Rattle.mds_request.specs.declared.call.AuthorCall.{AuthorCall}
use Rattle.mds_request.specs.declared.call.AuthorCall.TheVariants as author
use Rattle.mds_request.specs.declared.call.OperatorCall.{OperatorCall}
use Rattle.mds_request.specs.declared.call.OperatorCall.TheVariants as operators
use Rattle.mds_request.specs.declared.call.Call.{Call}
use Rattle.mds_request.specs.declared.call.Call.TheVariants as call
use Rattle.mds_request.specs.declared.call.TheConstants.{MOST_BODY}
use Rattle.mds_request.specs.declared.code.Code.{Code}
use Rattle.mds_request.specs.declared.code.Code.TheVariants.{TooLarge, Token, NoRoute, Method, Role, BadId, NoDraft, NotFound, IdMismatch, NoMemory}
use Rattle.mds_request.specs.declared.config.Actor.{Actor}
use Rattle.mds_request.specs.declared.config.Actor.TheVariants as actors
use Rattle.mds_request.specs.declared.request.Verb.{Verb}
use Rattle.mds_machine.specs.Answer.{settled, coded, or_code, if_it, leaving, ◌>>=◌}
use Rattle.mds_machine.specs.Author.{author_does, document_of, under, put_draft, drop_draft, draft_answer, publication_asked}
use Rattle.mds_machine.specs.Codes.{fault_code, book_code, put_code, publish_code}
use Rattle.mds_machine.specs.Laws.{MemoryAloneIsUnavailable}
use Rattle.mds_machine.specs.Operator.{operator_does, policy_compliance_answer}
use Rattle.mds_machine.specs.Published.{is_shown, policy_answer, geography_answer}
use Rattle.mds_machine.specs.Step.{State, call_does, does}
use Rattle.mds_machine.proofs.Successes.{Succeeds, call_succeeds, succeeds_on}

-- a refusal with the status 503 is the one for want of memory
abbrev IsOfMemory : Code → Type 0
IsOfMemory code = status_of code ≡ 503 → code ≡ NoMemory

-- one with another status is none of them
other : (code : Code) → (status_of code == 503) ≡ false → IsOfMemory code
other code not is = absurd (false≢true (sym not ∙ ap (λ n. n == 503) is))

memory : IsOfMemory NoMemory
memory is = refl

abbrev Refuses : {A : Type 0} → Result A Code → Type 0
Refuses (Ok a) = Unit {0}
Refuses (Err code) = IsOfMemory code

-- ---- the steps of a computation

refuses_on : {A B : Type 0} (x : Result A Code) (f : A → Result B Code) → Refuses x → ((a : A) → Refuses (f a)) → Refuses (x >>= f)
refuses_on (Ok a) f h next = next a
refuses_on (Err code) f h next = h

refuses_either : {A : Type 0} (b : Bool) (x y : Result A Code) → Refuses x → Refuses y → Refuses (cond b x y)
refuses_either true x y one two = one
refuses_either false x y one two = two

refuses_coded : {A F : Type 0} (code_of : F → Code) (x : Result A F) → ((fault : F) → IsOfMemory (code_of fault)) → Refuses (coded code_of x)
refuses_coded code_of (Ok a) h = tt
refuses_coded code_of (Err fault) h = h fault

refuses_none : {A : Type 0} (code : Code) (x : Option A) → IsOfMemory code → Refuses (or_code code x)
refuses_none code None h = h
refuses_none code (Some a) h = tt

-- ---- the codes of faults

fault_is : (fault : Fault) → IsOfMemory (fault_code fault)
fault_is bad_json = other _ refl
fault_is (bad_field field) = other _ refl
fault_is bad_number = other _ refl
fault_is out_of_range = other _ refl
fault_is decimal = other _ refl
fault_is too_many_rules = other _ refl
fault_is too_many_points = other _ refl
fault_is ring_short = other _ refl
fault_is ring_open = other _ refl
fault_is too_many_operators = other _ refl
fault_is bad_zone = other _ refl
fault_is alike = other _ refl

book_is : (fault : BookFault) → IsOfMemory (book_code fault)
book_is book.Future = other _ refl
book_is book.Stale = other _ refl
book_is book.FleetFull = other _ refl
book_is book.NoMemory = memory

put_is : (fault : PutFault) → IsOfMemory (put_code fault)
put_is put.DraftsFull = other _ refl
put_is put.NoMemory = memory

publish_is : (fault : PublishFault) → IsOfMemory (publish_code fault)
publish_is publish.Empty = other _ refl
publish_is (publish.NoDraft id) = other _ refl
publish_is (publish.Published id) = other _ refl
publish_is (publish.NoGeography id) = other _ refl
publish_is (publish.NoPredecessor id) = other _ refl
publish_is (publish.NotPublished id) = other _ refl
publish_is publish.CatalogFull = other _ refl
publish_is publish.NoMemory = memory

-- ---- the table of calls

with_refuses : (make : Option (List ℕ → Call)) (found : Option (List ℕ)) → Refuses (call_with make found)
with_refuses None found = other Role refl
with_refuses (Some make) None = other BadId refl
with_refuses (Some make) (Some id) = tt

among_refuses : (actor : Actor) (verb : Verb) (segments : List (List ℕ)) (refusal : Code) (rows : List Row) → IsOfMemory refusal
    → Refuses (call_among actor verb segments refusal rows)
among_refuses actor verb segments refusal [] h = h
among_refuses actor verb segments refusal (row ∷ rows) h =
    refuses_either (is_verb verb row.verb) (call_with (made actor row) (id_in row.path segments)) (call_among actor verb segments Method rows)
    (with_refuses (made actor row) (id_in row.path segments)) (among_refuses actor verb segments Method rows (other Method refl))

at_refuses : (actor : Actor) (verb : Verb) (segments : List (List ℕ)) → Refuses (called_at actor verb segments)
at_refuses actors.Nobody verb segments = other Token refl
at_refuses actors.Author verb segments = among_refuses actors.Author verb segments NoRoute (rows_at segments) (other NoRoute refl)
at_refuses (actors.Operator place) verb segments =
    among_refuses (actors.Operator place) verb segments NoRoute (rows_at segments) (other NoRoute refl)

call_refuses : (configuration : Configuration) (request : Request) → Refuses (call_of configuration request)
call_refuses configuration request =
    refuses_either (nat_lt MOST_BODY (length request.body)) (Err TooLarge)
    (called_at (actor_of configuration request.token) request.verb (segments_of request.target)) (other TooLarge refl)
    (at_refuses (actor_of configuration request.token) request.verb (segments_of request.target))

-- ---- what calls do

leaving_refuses : {S : Type 0} (old : S) (answer : Result Reply Code) → Refuses answer → Refuses (answer >>= leaving old)
leaving_refuses old (Ok reply) h = tt
leaving_refuses old (Err code) h = h

carried_refuses : {S T : Type 0} (f : Reply × S → T) (x : Result (Reply × S) Code) → Refuses x
    → Refuses {A = Reply × T} (x >>= λ after. Ok (after.0, f after))
carried_refuses f (Ok after) h = tt
carried_refuses f (Err code) h = h

policy_refuses : (publications : List Publication) (reader : Option (List ℕ)) (id : List ℕ) → Refuses (policy_answer publications reader id)
policy_refuses publications reader id =
    refuses_on (or_code NotFound (find_policy publications id)) _ (refuses_none NotFound (find_policy publications id) (other NotFound refl))
    (λ found. refuses_on (if_it NotFound (is_shown reader) found) _
    (refuses_either (is_shown reader found) (Ok found) (Err NotFound) tt (other NotFound refl)) (λ shown. tt))

geography_refuses : (publications : List Publication) (id : List ℕ) → Refuses (geography_answer publications id)
geography_refuses publications id =
    refuses_on (or_code NotFound (find_geography publications id)) _ (refuses_none NotFound (find_geography publications id) (other NotFound refl)) (λ found. tt)

operator_refuses : (zone : Zone) (operator : Operator) (publications : List Publication) (rows : Rows) (own : OperatorCall) (request : Request)
    → Refuses (operator_does zone operator publications rows own request)
operator_refuses zone operator publications rows operators.Policies request = tt
operator_refuses zone operator publications rows (operators.Policy id) request =
    leaving_refuses rows (policy_answer publications (Some operator.id) id) (policy_refuses publications (Some operator.id) id)
operator_refuses zone operator publications rows operators.Geographies request = tt
operator_refuses zone operator publications rows (operators.Geography id) request =
    leaving_refuses rows (geography_answer publications id) (geography_refuses publications id)
operator_refuses zone operator publications rows operators.Report request =
    refuses_on (coded fault_code (read_report request.body)) _ (refuses_coded fault_code (read_report request.body) fault_is)
    (λ report. refuses_on (coded book_code (outcome rows operator.limit report request.at)) _
    (refuses_coded book_code (outcome rows operator.limit report request.at) book_is) (λ taken. tt))
operator_refuses zone operator publications rows operators.Vehicles request = tt
operator_refuses zone operator publications rows (operators.RemoveVehicle device) request =
    refuses_either (is_some (get rows device)) _ (Err NotFound) tt (other NotFound refl)
operator_refuses zone operator publications rows operators.Compliance request = tt
operator_refuses zone operator publications rows (operators.PolicyCompliance id) request =
    leaving_refuses rows (policy_compliance_answer zone operator publications rows request.at id)
    (refuses_on (or_code NotFound (find_policy publications id)) _ (refuses_none NotFound (find_policy publications id) (other NotFound refl))
    (λ found. refuses_on (if_it NotFound (is_in_force publications operator.id request.at) found) _
    (refuses_either (is_in_force publications operator.id request.at found) (Ok found) (Err NotFound) tt (other NotFound refl)) (λ binding. tt)))

document_refuses : (kind : DraftKind) (text : List ℕ) → Refuses (document_of kind text)
document_refuses kinds.Policy text =
    refuses_on (coded fault_code (read_policy text)) _ (refuses_coded fault_code (read_policy text) fault_is) (λ d. tt)
document_refuses kinds.Geography text =
    refuses_on (coded fault_code (read_geography text)) _ (refuses_coded fault_code (read_geography text) fault_is) (λ d. tt)

put_refuses : (drafts : Drafts) (kind : DraftKind) (id text : List ℕ) → Refuses (put_draft drafts kind id text)
put_refuses drafts kind id text =
    refuses_on (document_of kind text) _ (document_refuses kind text)
    (λ read. refuses_on (under id read) _ (refuses_either (bytes_eq (id_of read) id) (Ok read) (Err IdMismatch) tt (other IdMismatch refl))
    (λ document. refuses_on (coded put_code (put_answer drafts document)) _ (refuses_coded put_code (put_answer drafts document) put_is) (λ put. tt)))

publication_refuses : (drafts : Drafts) (publications : List Publication) (request : Request) → Refuses (publication_asked drafts publications request)
publication_refuses drafts publications request =
    refuses_on (coded fault_code (read_publish_list request.body)) _ (refuses_coded fault_code (read_publish_list request.body) fault_is)
    (λ named. refuses_coded publish_code (batch_of drafts named publications request.at) publish_is)

author_refuses : (drafts : Drafts) (publications : List Publication) (own : AuthorCall) (request : Request)
    → Refuses (author_does drafts publications own request)
author_refuses drafts publications author.Policies request = tt
author_refuses drafts publications (author.Policy id) request =
    leaving_refuses (drafts, publications) (policy_answer publications None id) (policy_refuses publications None id)
author_refuses drafts publications author.Geographies request = tt
author_refuses drafts publications (author.Geography id) request =
    leaving_refuses (drafts, publications) (geography_answer publications id) (geography_refuses publications id)
author_refuses drafts publications (author.PutDraft kind id) request =
    carried_refuses (λ after. (after.1, publications)) (put_draft drafts kind id request.body) (put_refuses drafts kind id request.body)
author_refuses drafts publications (author.Draft kind id) request =
    leaving_refuses (drafts, publications) (draft_answer drafts kind id)
    (refuses_on (or_code NoDraft (draft_at drafts kind id)) _ (refuses_none NoDraft (draft_at drafts kind id) (other NoDraft refl)) (λ document. tt))
author_refuses drafts publications (author.DropDraft kind id) request =
    carried_refuses (λ after. (after.1, publications)) (drop_draft drafts kind id)
    (refuses_either (has_draft drafts kind id) _ (Err NoDraft) tt (other NoDraft refl))
author_refuses drafts publications author.Publish request =
    refuses_on (publication_asked drafts publications request) _ (publication_refuses drafts publications request) (λ p. tt)

does_refuses : (w : State) (called : Call) (request : Request) → Refuses (call_does w called request)
does_refuses w (call.Author own) request =
    carried_refuses _ (author_does w.drafts w.publications own request) (author_refuses w.drafts w.publications own request)
does_refuses w (call.Operator place own) request =
    refuses_on (or_code Token (slice_get w.configuration.operators place)) _
    (refuses_none Token (slice_get w.configuration.operators place) (other Token refl))
    (λ operator. refuses_on (or_code Token (slice_get w.fleets place)) _ (refuses_none Token (slice_get w.fleets place) (other Token refl))
    (λ rows. carried_refuses _ (operator_does w.configuration.zone operator w.publications rows own request)
    (operator_refuses w.configuration.zone operator w.publications rows own request)))

-- a success has another status
settled_is : {S : Type 0} (old : S) (x : Result (Reply × S) Code) → Succeeds x → Refuses x → (settled old x).0.status ≡ 503
    → (settled old x).0 ≡ refused NoMemory
settled_is old (Ok after) success h is = absurd (false≢true (sym (ap (λ n. n == 503) success) ∙ ap (λ n. n == 503) is))
settled_is old (Err code) success h is = ap refused (h is)

pub memory_alone_is_unavailable : MemoryAloneIsUnavailable
memory_alone_is_unavailable w request reply next step is = elim step [
  | inl a ↦ a.0 ∙ settled_is w (does w request)
      (succeeds_on (call_of w.configuration request) _ (λ called. call_succeeds w called request))
      (refuses_on (call_of w.configuration request) _ (call_refuses w.configuration request) (λ called. does_refuses w called request))
      (sym (ap (λ r. r.status) a.0) ∙ is)
  | inr a ↦ a.1
]
