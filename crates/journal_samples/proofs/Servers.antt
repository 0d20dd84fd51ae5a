-- A server that does what entries tell has of each operator what stands after them.
use Rattle.std.proofs.Common.{◌≡◌, ◌≢◌, ◌<◌, ℕ, Bool, true, false, nat_eq, zero, suc, List, [], ◌∷◌, map, length, get_or, Option}
use Rattle.std.proofs.Common.{Some, None, Result, Ok, Err, inl, inr, refl, sym, ap, subst, ◌∙◌, arith}
use Rattle.std.specs.FinMap.{empty}
use Rattle.std.specs.List.{slice_get}
use Rattle.std.specs.Option.{option_map}
use Rattle.std.proofs.lemmas.Bool.Decides.{nat_tests}
use Rattle.std.proofs.lemmas.List.{length-map}
use Rattle.std.proofs.lemmas.Option.{slice_get-get_or}
use Rattle.mds_catalog.specs.Publication.{Publication}
use Rattle.mds_drafts.specs.Drafts.{Drafts}
use Rattle.mds_fleet.specs.Books.{Rows}
use Rattle.mds_request.proofs.Callers.{never_author, never_operator, same_operator}
use Rattle.mds_request.specs.Call.{call_of}
use Rattle.mds_request.specs.Configuration.{Configuration, Operator, actor_of, ids, repeats}
use Rattle.mds_request.specs.Reply.{Reply}
use Rattle.mds_request.specs.Request.{Request}
use Rattle.mds_request.specs.declared.call.Call.{Call}
use Rattle.mds_request.specs.declared.call.Call.TheVariants as call
use Rattle.mds_request.specs.declared.call.OperatorCall.{OperatorCall}
use Rattle.mds_request.specs.declared.code.Code.{Code}
use Rattle.mds_request.specs.declared.code.Code.TheVariants.{Token}
use Rattle.mds_request.specs.declared.config.Actor.{Actor}
use Rattle.mds_request.specs.declared.config.Actor.TheVariants.{Author, Operator as OperatorAt, Nobody}
use Rattle.mds_machine.specs.Answer.{or_code, settled, ◌>>=◌}
use Rattle.mds_machine.specs.Author.{author_does}
use Rattle.mds_machine.specs.Operator.{operator_does}
use Rattle.mds_machine.specs.Step.{Exchange, Run, State, Step, does, new_state}
use Rattle.mds_machine.proofs.Steps.{authored, call_step, leaves_others, lifted, operator_step, set_here}
use Rattle.journal_entry.specs.Entries.{Entry}
use Rattle.journal_entry.specs.Requests.{actor_by, entry_by, request_by}
use Rattle.journal_entry.proofs.Asked.{reads_the_request}
use Rattle.journal_samples.specs.Servers.{AreOf, Holds, StandsAsServed, seen}
use Rattle.journal_samples.specs.Standing.{Standing, after_asked, after_entries, after_entry, after_request, call_does, counts}
use Rattle.journal_samples.specs.Standing.{new_standing, with_documents, with_rows}
use Rattle.journal_samples.proofs.Held.{succeeded}
use Rattle.journal_samples.proofs.Placing.{not_nobody, who_is}

module _ (w : State) (place : ℕ) (rows : Rows) (held : slice_get w.fleets place ≡ Some rows) where
  abbrev s : Standing
  s = seen w place rows

  authored_holds : (own : Result (Reply × (Drafts × List Publication)) Code)
      → Holds place (settled s (own >>= λ after. Ok (after.0, with_documents s after.1))).1 (authored w own).1
  authored_holds (Err code) = (rows, held, refl)
  authored_holds (Ok after) = (rows, held, refl)

  own_outcome : (own : Result (Reply × Rows) Code)
      → Holds place (settled s (own >>= λ after. Ok (after.0, with_rows s after.1))).1 (lifted w place own).1
  own_outcome (Err code) = (rows, held, refl)
  own_outcome (Ok after) = (after.1, set_here w.fleets place rows after.1 held, refl)

  own_holds : (operator : Option Operator) (found : Option Rows) (called : OperatorCall) (request : Request) → found ≡ Some rows
      → Holds place
      (settled s
      (or_code Token operator >>= λ o. operator_does w.configuration.zone o w.publications rows called request
      >>= λ after. Ok (after.0, with_rows s after.1))).1
      (operator_step w place operator found called request).1
  own_holds None found called request is = (rows, held, refl)
  own_holds (Some o) found called request is =
      let own = operator_does w.configuration.zone o w.publications rows called request in
      subst (λ f. Holds place (settled s (own >>= λ after. Ok (after.0, with_rows s after.1))).1 (operator_step w place (Some o) f called request).1)
      (sym is) (own_outcome own)

  -- an answered call
  abbrev After : Result Call Code → Request → Type 0
  After called request = Holds place (settled s (called >>= λ c. call_does s c request)).1 (call_step w called request).1

  by_author : (request : Request) (called : Result Call Code) → actor_of w.configuration request.token ≡ Author
      → call_of w.configuration request ≡ called → After called request
  by_author request (Err code) whose is = (rows, held, refl)
  by_author request (Ok (call.Author own)) whose is = authored_holds (author_does w.drafts w.publications own request)
  by_author request (Ok (call.Operator other own)) whose is = absurd (never_operator w.configuration request other own whose is)

  at_own : (request : Request) (other : ℕ) (own : OperatorCall) → other ≡ place → After (Ok (call.Operator other own)) request
  at_own request other own same =
      subst (λ p. After (Ok (call.Operator p own)) request) (sym same)
      (own_holds (slice_get w.configuration.operators place) (slice_get w.fleets place) own request held)

  by_operator : (request : Request) (called : Result Call Code) → actor_of w.configuration request.token ≡ OperatorAt place
      → call_of w.configuration request ≡ called → After called request
  by_operator request (Err code) whose is = (rows, held, refl)
  by_operator request (Ok (call.Author own)) whose is = absurd (never_author w.configuration request place own whose is)
  by_operator request (Ok (call.Operator other own)) whose is =
      at_own request other own (same_operator w.configuration request place other own whose is)

  -- an entry that counts
  counted : (e : Entry) (request : Request) (actor : Actor) → actor_by w.configuration e.client ≡ actor → counts place actor ≡ true
      → request_by w.configuration e ≡ Some request → after_entry s e ≡ after_request s request
  counted e request actor client counts_it asked =
      let so : counts place (actor_by w.configuration e.client) ≡ true = ap (counts place) client ∙ counts_it in
      rw so (ap (after_asked s) asked)

  passed_over : (e : Entry) (actor : Actor) → actor_by w.configuration e.client ≡ actor → counts place actor ≡ false → after_entry s e ≡ s
  passed_over e actor client not_it =
      let so : counts place (actor_by w.configuration e.client) ≡ false = ap (counts place) client ∙ not_it in
      rw so refl

  module _ (next : State) (e : Entry) (request : Request) (reply : Reply)
      (alone : repeats (ids w.configuration.operators) ≡ false) (is : entry_by w.configuration request ≡ Some e)
      (ok : reply.status ≡ 200) (step : Step w request reply next) where
    next_is : next ≡ (call_step w (call_of w.configuration request) request).1
    next_is = succeeded w next (does w request) reply ok step

    asked : request_by w.configuration e ≡ Some request
    asked = reads_the_request w.configuration request e alone is

    client : actor_by w.configuration e.client ≡ actor_of w.configuration request.token
    client = who_is w.configuration request e alone is

    answered : counts place (actor_of w.configuration request.token) ≡ true → After (call_of w.configuration request) request
        → Holds place (after_entry s e) next
    answered counts_it after =
        subst (λ x. Holds place x next) (sym (counted e request (actor_of w.configuration request.token) client counts_it asked))
        (subst (λ v. Holds place (after_request s request) v) (sym next_is) after)

    of_other : (other : ℕ) → actor_of w.configuration request.token ≡ OperatorAt other → place ≢ other → counts place (OperatorAt other) ≡ false
        → Holds place (after_entry s e) next
    of_other other whose apart not_it =
        let standing : Configuration → List Publication → Drafts → Standing =
        λ c ps ds. record { configuration = c; place = place; publications = ps; drafts = ds; rows = rows } in
        let left = leaves_others w request reply next other place whose step apart in (
          rows,
          left.0.rows ∙ held,
          passed_over e (OperatorAt other) (client ∙ whose) not_it
              ∙ ap (λ c. standing c w.publications w.drafts) (sym left.0.configuration)
              ∙ ap (λ ps. standing next.configuration ps w.drafts) (sym left.0.publications)
              ∙ ap (λ ds. standing next.configuration next.publications ds) (sym left.1),
        )

    by_place : (other : ℕ) (b : Bool) → nat_eq other place ≡ b → actor_of w.configuration request.token ≡ OperatorAt other
        → Holds place (after_entry s e) next
    by_place other true same whose =
        let it : other ≡ place = grind (arith, nat_tests, same) in
        let own : actor_of w.configuration request.token ≡ OperatorAt place = whose ∙ ap OperatorAt it in
        answered (ap (counts place) whose ∙ same) (by_operator request (call_of w.configuration request) own refl)
    by_place other false not_same whose =
        let apart : place ≢ other = λ h. absurd (let no : nat_eq other place ≡ true = grind (arith, nat_tests, h) in cc) in
        of_other other whose apart not_same

    by_client : (actor : Actor) → actor_of w.configuration request.token ≡ actor → Holds place (after_entry s e) next
    by_client Author whose = answered (ap (counts place) whose) (by_author request (call_of w.configuration request) whose refl)
    by_client (OperatorAt other) whose = by_place other (nat_eq other place) refl whose
    by_client Nobody whose = absurd (not_nobody w.configuration request e whose is)

    stepped : Holds place (after_entry s e) next
    stepped = by_client (actor_of w.configuration request.token) refl

-- the configuration stays
lifted_same : (w : State) (place : ℕ) (own : Result (Reply × Rows) Code) → (lifted w place own).1.configuration ≡ w.configuration
lifted_same w place (Err code) = refl
lifted_same w place (Ok after) = refl

operator_same : (w : State) (place : ℕ) (found : Option Operator) (held : Option Rows) (own : OperatorCall) (request : Request)
    → (operator_step w place found held own request).1.configuration ≡ w.configuration
operator_same w place None held own request = refl
operator_same w place (Some operator) None own request = refl
operator_same w place (Some operator) (Some rows) own request =
    lifted_same w place (operator_does w.configuration.zone operator w.publications rows own request)

authored_same : (w : State) (own : Result (Reply × (Drafts × List Publication)) Code) → (authored w own).1.configuration ≡ w.configuration
authored_same w (Err code) = refl
authored_same w (Ok after) = refl

call_same : (w : State) (called : Result Call Code) (request : Request) → (call_step w called request).1.configuration ≡ w.configuration
call_same w (Err code) request = refl
call_same w (Ok (call.Author own)) request = authored_same w (author_does w.drafts w.publications own request)
call_same w (Ok (call.Operator place own)) request =
    operator_same w place (slice_get w.configuration.operators place) (slice_get w.fleets place) own request

stays : (w next : State) (request : Request) (reply : Reply) → Step w request reply next → next.configuration ≡ w.configuration
stays w next request reply step = elim step [
  | inl a ↦ ap (λ v. v.configuration) a.1 ∙ call_same w (call_of w.configuration request) request
  | inr a ↦ ap (λ v. v.configuration) a.2
]

walked : (w next : State) (place : ℕ) (entries : List Entry) (history : List Exchange) (s : Standing)
    → repeats (ids w.configuration.operators) ≡ false → Holds place s w
    → AreOf w.configuration entries history → Run w history next → Holds place (after_entries s entries) next
walked w next place [] [] s alone holds are run = subst (λ v. Holds place s v) (sym run) holds
walked w next place [] (x ∷ history) s alone holds are run = absurd are
walked w next place (e ∷ entries) [] s alone holds are run = absurd are
walked w next place (e ∷ entries) (x ∷ history) s alone holds are run =
    let between = run.0 in
    let same : between.configuration ≡ w.configuration = stays w between x.request x.reply run.1 in
    let here : Holds place (after_entry s e) between =
    subst (λ t. Holds place (after_entry t e) between) (sym holds.2)
    (stepped w place holds.0 holds.1 between e x.request x.reply alone are.0 are.1 run.1) in
    walked between next place entries history (after_entry s e)
    (ap (λ c. repeats (ids c.operators)) same ∙ alone) here
    (subst (λ c. AreOf c entries history) (sym same) are.2) run.2

abbrev no_rows : Rows
no_rows = empty

-- each operator of a new server has no rows
each_empty : (operators : List Operator) (place : ℕ) → place < length operators → slice_get (map (λ operator. no_rows) operators) place ≡ Some no_rows
each_empty operators place within =
    slice_get-get_or (map (λ operator. no_rows) operators) place no_rows
    (omega (arith, within, length-map operators (λ (operator : Operator). no_rows)))
    ∙ ap (λ x. Some x) (all operators place)
  where
    all : (operators : List Operator) (place : ℕ) → get_or (map (λ operator. no_rows) operators) place no_rows ≡ no_rows
    all [] place = refl
    all (o ∷ operators) zero = refl
    all (o ∷ operators) (suc place) = all operators place

begun : (c : Configuration) (place : ℕ) → place < length c.operators → Holds place (new_standing c place) (new_state c)
begun c place within = (no_rows, each_empty c.operators place within, refl)

pub served : StandsAsServed
served c place entries history next alone within are run =
    walked (new_state c) next place entries history (new_standing c place) alone (begun c place within) are run
