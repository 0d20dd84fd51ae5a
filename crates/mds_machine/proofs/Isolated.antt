-- An operator's replies in a history are those that its view of the history defines.
use Rattle.std.proofs.Common.{◌≡◌, ◌≢◌, ℕ, Bool, true, false, cond, List, [], ◌∷◌, ◌++◌, map, Option, Some, None, Result, Ok, Err, inl, inr, refl, sym, ap, subst, ◌∙◌}
use Rattle.std.specs.List.{slice_get}
use Rattle.std.specs.Option.{option_to_list}
use Rattle.std.proofs.lemmas.Bool.{eqb-true, eqb-false, false≢true}
use Rattle.std.proofs.lemmas.List.{append-nil, append_assoc}
use Rattle.std.proofs.lemmas.List.Elements.{filter_map-append}
use Rattle.mds_catalog.specs.Publication.{Publication}
use Rattle.mds_request.specs.Configuration.{Configuration, Operator, actor_of}
use Rattle.mds_request.specs.Call.{call_of}
use Rattle.mds_request.specs.Request.{Request}
use Rattle.mds_request.specs.Reply.{Reply, refused}
use Rattle.mds_request.specs.declared.call.OperatorCall.{OperatorCall}
use Rattle.mds_request.specs.declared.call.Call.{Call}
use Rattle.mds_request.specs.declared.call.Call.TheVariants as call
use Rattle.mds_request.specs.declared.code.Code.{Code}
use Rattle.mds_request.specs.declared.code.Code.TheVariants.{NoMemory}
use Rattle.mds_request.specs.declared.config.Actor.{Actor}
use Rattle.mds_request.specs.declared.config.Actor.TheVariants.{Author, Operator as OperatorAt, Nobody}
use Rattle.mds_machine.specs.Author.{author_does}
use Rattle.mds_machine.specs.History.{draft_after, published_in}
use Rattle.mds_machine.specs.Isolation.{AreKeyed, StandsAfter, HasMemory, IsMeantThroughout, IsMeantFromNew, served_for}
use Rattle.mds_machine.specs.Laws.{IsAfter}
use Rattle.mds_machine.specs.Meaning.{AreRows, IsAnswer, Shows}
use Rattle.mds_machine.specs.Step.{State, Exchange, Step, Run, new_state}
use Rattle.mds_machine.specs.Views.{Seen, asked, published, is_place, is_of, seen_in, view, as_publication, as_request, publications_of, requests_of}
use Rattle.mds_machine.proofs.Callers.{IsBy, call_by}
use Rattle.mds_machine.proofs.Histories.{along, each_on, now_published, after_one, after_none, begins_keyed}
use Rattle.mds_machine.proofs.Meaning.{is_meant, begins_without_rows}
use Rattle.mds_machine.proofs.Served.{served_memory, served_run}
use Rattle.mds_machine.proofs.Steps.{call_step, operator_left, authored_rows}

-- ---- requests of others

module _ (w : State) (place : ℕ) (request : Request) where
  abbrev Kept : State → Type 0
  Kept next = slice_get next.fleets place ≡ slice_get w.fleets place

  -- a call of a client that isn't the operator isn't at the operator's place
  elsewhere : (actor : Actor) (other : ℕ) (own : OperatorCall) → IsBy actor (Ok (call.Operator other own)) → is_place place actor ≡ false → place ≢ other
  elsewhere Author other own by is = absurd by
  elsewhere (OperatorAt at) other own by is = λ here. eqb-false place at is (here ∙ by)
  elsewhere Nobody other own by is = absurd by

  call_leaves : (actor : Actor) (called : Result Call Code) → IsBy actor called → is_place place actor ≡ false → Kept (call_step w called request).1
  call_leaves actor (Ok (call.Author own)) by is =
      ap (λ fleets. slice_get fleets place) (authored_rows w (author_does w.drafts w.publications own request))
  call_leaves actor (Ok (call.Operator other own)) by is =
      (operator_left w other place (slice_get w.configuration.operators other) (slice_get w.fleets other) own request (elsewhere actor other own by is)).0.rows
  call_leaves actor (Err code) by is = refl

-- a request that isn't an operator's doesn't change its rows
pub rows_stay : (w : State) (place : ℕ) (request : Request) (reply : Reply) (next : State) → is_of w.configuration place request ≡ false → Step w request reply next → slice_get next.fleets place ≡ slice_get w.fleets place
rows_stay w place request reply next is step = elim step [
  | inl a ↦ ap (λ s. slice_get s.fleets place) a.1
      ∙ call_leaves w place request (actor_of w.configuration request.token) (call_of w.configuration request) (call_by w.configuration request) is
  | inr a ↦ ap (λ s. slice_get s.fleets place) a.2
]

place_of : (place : ℕ) (actor : Actor) → is_place place actor ≡ true → actor ≡ OperatorAt place
place_of place Author is = absurd (false≢true is)
place_of place (OperatorAt other) is = ap OperatorAt (sym (eqb-true place other is))
place_of place Nobody is = absurd (false≢true is)

pub whose : (configuration : Configuration) (place : ℕ) (request : Request) → is_of configuration place request ≡ true → actor_of configuration request.token ≡ OperatorAt place
whose configuration place request is = place_of place (actor_of configuration request.token) is

-- ---- histories and views

pub memory_before : (configuration : Configuration) (place : ℕ) (before : List Exchange) (e : Exchange) → HasMemory configuration place (before ++ e ∷ []) → HasMemory configuration place before
memory_before configuration place before e has earlier x stands =
    has earlier x (stands.0 ++ e ∷ [], ap (λ h. h ++ e ∷ []) stands.1 ∙ append_assoc earlier (x ∷ stands.0) (e ∷ []))

pub memory_last : (configuration : Configuration) (place : ℕ) (before : List Exchange) (e : Exchange) → HasMemory configuration place (before ++ e ∷ []) → is_of configuration place e.request ≡ true → e.reply ≢ refused NoMemory
memory_last configuration place before e has = has before e ([], refl)

pub memory_front : (configuration : Configuration) (place : ℕ) (before rest : List Exchange) → HasMemory configuration place (before ++ rest) → HasMemory configuration place before
memory_front configuration place before rest has earlier x stands =
    has earlier x (stands.0 ++ rest, ap (λ h. h ++ rest) stands.1 ∙ append_assoc earlier (x ∷ stands.0) rest)

-- a run in two parts
pub in_parts : (w next : State) (before rest : List Exchange) → Run w (before ++ rest) next → (between : State) × Run w before between × Run between rest next
in_parts w next [] rest run = (w, refl, run)
in_parts w next (e ∷ before) rest run =
    let parts = in_parts run.0 next before rest run.2 in
    (parts.0, (run.0, run.1, parts.1), parts.2)

pub view_on : (first : State) (place : ℕ) (before : List Exchange) (e : Exchange) → view first.configuration first.drafts (before ++ e ∷ []) place ≡ view first.configuration first.drafts before place ++ seen_in first.configuration place (draft_after first.configuration first.drafts before) e
view_on first place before e = each_on (λ e. seen_in first.configuration place (draft_after first.configuration first.drafts e.0) e.1) before e

-- ---- meaning

pub published_only : (made : Option Publication) → publications_of (map published (option_to_list made)) ≡ option_to_list made
published_only None = refl
published_only (Some p) = refl

requests_none : (made : Option Publication) → requests_of (map published (option_to_list made)) ≡ []
requests_none None = refl
requests_none (Some p) = refl

module _ (first : State) (place : ℕ) (operator : Operator) (found : slice_get first.configuration.operators place ≡ Some operator) (seen : List Seen) where
  abbrev viewed : List Exchange → List Seen
  viewed before = seen ++ view first.configuration first.drafts before place

  abbrev news : List Exchange → Exchange → List Seen
  news before e = seen_in first.configuration place (draft_after first.configuration first.drafts before) e

  abbrev Known : List Exchange → State → Type 0
  Known before w = Shows first.configuration operator place (viewed before) w

  viewed_on : (before : List Exchange) (e : Exchange) → viewed (before ++ e ∷ []) ≡ viewed before ++ news before e
  viewed_on before e =
      ap (λ s. seen ++ s) (view_on first place before e)
      ∙ sym (append_assoc seen (view first.configuration first.drafts before place) (news before e))

  abbrev So : List Exchange → State → Type 0
  So before w = IsAfter first before w × (HasMemory first.configuration place before → Known before w)

  -- the answer to a request of the operator, and what is known afterwards
  own_known : (before : List Exchange) (w : State) (e : Exchange) (next : State) → IsAfter first before w → Known before w → is_of first.configuration place e.request ≡ true → Step w e.request e.reply next → e.reply ≢ refused NoMemory → IsAnswer first.configuration operator (viewed before) e.request e.reply × Shows first.configuration operator place (viewed before ++ asked e.request ∷ []) next
  own_known before w e next is known own step really =
      let same : w.configuration ≡ first.configuration = is.configuration in
      let mine = ap (λ c. actor_of c e.request.token) same ∙ whose first.configuration place e.request own in
      let there = ap (λ c. slice_get c.operators place) same ∙ found in
      let meant = is_meant w e.request e.reply next place operator (viewed before) mine there
      (subst (λ c. Shows c operator place (viewed before) w) (sym same) known) step really in (
        subst (λ c. IsAnswer c operator (viewed before) e.request e.reply) same meant.0,
        subst (λ c. Shows c operator place (viewed before ++ asked e.request ∷ []) next) same meant.1,
      )

  -- what is known after a request of another client
  others_known : (before : List Exchange) (w : State) (e : Exchange) (next : State) → IsAfter first before w → Known before w → is_of first.configuration place e.request ≡ false → Step w e.request e.reply next → (made : Option Publication) → published_in first.configuration (draft_after first.configuration first.drafts before) e ≡ made → Shows first.configuration operator place (viewed before ++ map published (option_to_list made)) next
  others_known before w e next is known other step made makes =
      let apart = ap (λ c. is_of c place e.request) is.configuration ∙ other in
      record {
        rows = known.rows;
        held = rows_stay w place e.request e.reply next apart step ∙ known.held;
        publications = filter_map-append as_publication (viewed before) (map published (option_to_list made))
            ∙ ap (λ ps. publications_of (viewed before) ++ ps) (published_only made)
            ∙ ap (λ ps. ps ++ option_to_list made) known.publications
            ∙ ap (λ m. w.publications ++ option_to_list m) (sym makes)
            ∙ sym (now_published first before w e next is step);
        are = subst (λ requests. AreRows first.configuration operator requests known.rows)
            (sym (filter_map-append as_request (viewed before) (map published (option_to_list made)) ∙ ap (λ rs. requests_of (viewed before) ++ rs) (requests_none made) ∙ append-nil (requests_of (viewed before))))
            known.are;
      }

  known_by : (before : List Exchange) (w : State) (e : Exchange) (next : State) → IsAfter first before w → Known before w → Step w e.request e.reply next → (is_of first.configuration place e.request ≡ true → e.reply ≢ refused NoMemory) → (own : Bool) → is_of first.configuration place e.request ≡ own → Shows first.configuration operator place (viewed before ++ cond own (asked e.request ∷ []) (map published (option_to_list (published_in first.configuration (draft_after first.configuration first.drafts before) e)))) next
  known_by before w e next is known step really true own = (own_known before w e next is known own step (really own)).1
  known_by before w e next is known step really false other = others_known before w e next is known other step _ refl

  on : (before : List Exchange) (w : State) (e : Exchange) (next : State) → So before w → Step w e.request e.reply next → So (before ++ e ∷ []) next
  on before w e next so step = (
    after_one first before w e next so.0 step,
    λ has. subst (λ s. Shows first.configuration operator place s next) (sym (viewed_on before e))
        (known_by before w e next so.0 (so.1 (memory_before first.configuration place before e has)) step
        (memory_last first.configuration place before e has) (is_of first.configuration place e.request) refl),
  )

  module _ (next : State) (history : List Exchange) (keyed : AreKeyed first.drafts) (run : Run first history next) (shows : Shows first.configuration operator place seen first) (has : HasMemory first.configuration place history) where
    begun : So [] first
    begun = (after_none first keyed, λ h. subst (λ s. Shows first.configuration operator place s first) (sym (append-nil seen)) shows)

    answers : (before : List Exchange) (e : Exchange) → StandsAfter before e history → is_of first.configuration place e.request ≡ true → IsAnswer first.configuration operator (viewed before) e.request e.reply
    answers before e stands own =
        let parts = in_parts first next before (e ∷ stands.0) (subst (λ h. Run first h next) stands.1 run) in
        let so = along So on [] before first parts.0 begun parts.1 in
        (own_known before parts.0 e parts.2.0 so.0
        (so.1 (memory_front first.configuration place before (e ∷ stands.0) (subst (HasMemory first.configuration place) stands.1 has)))
        own parts.2.1 (has before e stands own)).0

    kept : Known history next
    kept = (along So on [] history first next begun run).1 has

pub is_meant_throughout : IsMeantThroughout
is_meant_throughout w next history keyed run place operator seen found shows =
    let served = served_for w.configuration place history in
    let ran = served_run w.configuration place history w next run in
    let has = served_memory w.configuration place history in (
      answers w place operator found seen next served keyed ran shows has,
      kept w place operator found seen next served keyed ran shows has,
    )

pub is_meant_from_new : IsMeantFromNew
is_meant_from_new configuration next history place operator run found =
    answers (new_state configuration) place operator found [] next (served_for configuration place history) (begins_keyed configuration)
    (served_run configuration place history (new_state configuration) next run)
    (begins_without_rows configuration place operator found) (served_memory configuration place history)
