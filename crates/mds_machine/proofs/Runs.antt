-- The turns of a desk, and their meaning.
use mathlib.Core.List.{IsPrefix}
use Rattle.std.proofs.Common.{◌≡◌, ℕ, Bool, true, false, cond, not, List, [], ◌∷◌, ◌++◌, inl, inr, refl, sym, ap, subst, ◌∙◌}
use Rattle.std.specs.Prelude.{◌==◌, ◌&&◌}
use Rattle.std.specs.List.{list_all}
use Rattle.std.proofs.lemmas.Bool.{false≢true, eqb-true}
use Rattle.std.proofs.lemmas.List.{map-append}
use Rattle.std.proofs.lemmas.List.Elements.{filter_map-append}
use Rattle.mds_catalog.specs.Publication.{Publication}
use Rattle.mds_fleet.specs.Books.{Rows}
use Rattle.mds_request.specs.Call.{call_of}
use Rattle.mds_request.specs.Configuration.{Configuration, Operator}
use Rattle.mds_request.specs.Request.{Request}
use Rattle.mds_request.specs.Reply.{Reply, refused}
use Rattle.mds_request.specs.declared.code.Code.{Code}
use Rattle.mds_request.specs.declared.code.Code.TheVariants.{NoSnapshot, NoMemory}
use Rattle.mds_machine.specs.Answer.{◌>>=◌}
use Rattle.mds_machine.specs.Meaning.{own_call, own_step, AreRows, IsAnswer}
use Rattle.mds_machine.specs.Operator.{operator_does}
use Rattle.mds_machine.specs.Views.{Seen, asked, is_of, as_request, publications_of, requests_of}
use Rattle.mds_machine.proofs.Meaning.{rows_go_on}
use Rattle.mds_machine.proofs.Successes.{succeeds_on, operator_succeeds, settled_leaves}
use Rattle.mds_machine.specs.Desks.{refusal_of, IsTurn, AreTurns, IsRun}
use Rattle.mds_machine.specs.Fronts.{Turn, AreRising, last_front, followed, continued, AreAnswers, is_served, served_in, requests_in, replies_in}
use Rattle.mds_machine.specs.DeskLaws.{TurnsAreMeant, TurnsAreJoined, ServedAreTurns}
use Rattle.mds_machine.proofs.PutIn.{AreOwn}
use Rattle.mds_machine.proofs.Served.{not_unavailable}
use Rattle.mds_machine.proofs.Views.{prefix_on, prefix_self, both_true, rise_from, last_on, front_shown, requests_left, then, rise_then}

-- ---- turns that are served

module _ (configuration : Configuration) (place : ℕ) (operator : Operator) where
  -- a turn for a request of the operator is the operator's own step
  served_own : (known : List Publication) (rows : Rows) (turn : Turn) (after : Rows) → IsTurn configuration place operator known rows turn after → is_served configuration place turn ≡ true → (turn.reply ≡ (own_step configuration operator turn.front rows turn.request).0) × (after ≡ (own_step configuration operator turn.front rows turn.request).1)
  served_own known rows turn after is served =
      let parts = both_true (is_of configuration place turn.request) (not (turn.reply.status == 503)) served in
      let own = own_step configuration operator turn.front rows turn.request in
      let other : Reply × Rows = (refused (refusal_of (call_of configuration turn.request)), rows) in
      elim is.answer [
        | inl a ↦ (a.0 ∙ ap (λ b. (cond b own other).0) parts.0, a.1 ∙ ap (λ b. (cond b own other).1) parts.0)
        | inr a ↦ elim a.0 [
          | inl r ↦ absurd (not_unavailable turn.reply NoSnapshot refl parts.1 r)
          | inr r ↦ absurd (not_unavailable turn.reply NoMemory refl parts.1 r)
        ]
      ]

  pub own_of : (known : List Publication) (rows : Rows) (turns : List Turn) (after : Rows) → AreTurns configuration place operator known rows turns after → list_all (is_served configuration place) turns ≡ true → AreOwn configuration operator rows turns after
  own_of known rows [] after are served = are
  own_of known rows (turn ∷ turns) after are served =
      let parts = both_true (is_served configuration place turn) (list_all (is_served configuration place) turns) served in
      let one = served_own known rows turn are.0 are.1 parts.0 in
      (one.0, subst (λ r. AreOwn configuration operator r turns after) one.1 (own_of turn.front are.0 turns after are.2 parts.1))

  pub rise_of : (known : List Publication) (rows : Rows) (turns : List Turn) (after : Rows) → AreTurns configuration place operator known rows turns after → AreRising known turns
  rise_of known rows [] after are = tt
  rise_of known rows (turn ∷ turns) after are = (are.1.begins, rise_of turn.front are.0 turns after are.2)

-- ---- their meaning

-- own steps are the answers of the continued view
pub answers_of : (configuration : Configuration) (operator : Operator) (seen : List Seen) (rows : Rows) (turns : List Turn) (after : Rows) → AreRows configuration operator (requests_of seen) rows → AreRising (publications_of seen) turns → AreOwn configuration operator rows turns after → AreAnswers configuration operator seen turns × AreRows configuration operator (requests_of (continued seen turns)) after
answers_of configuration operator seen rows [] after are rising own =
    (tt, subst (AreRows configuration operator (requests_of seen)) (sym own) are)
answers_of configuration operator seen rows (turn ∷ turns) after are rising own =
    let now = followed seen turn.front in
    let step = own_step configuration operator turn.front rows turn.request in
    let are_now : AreRows configuration operator (requests_of now) rows =
    subst (λ rs. AreRows configuration operator rs rows) (sym (requests_left seen turn.front)) are in
    let answer : IsAnswer configuration operator now turn.request turn.reply =
    (rows, are_now, own.0 ∙ ap (λ ps. (own_step configuration operator ps rows turn.request).0) (sym (front_shown seen turn.front rising.0))) in
    let more = answers_of configuration operator (then seen turn) step.1 turns after
    (subst (λ rs. AreRows configuration operator rs step.1)
    (sym (filter_map-append as_request now (asked turn.request ∷ [])))
    (rows_go_on configuration operator turn.front (requests_of now) turn.request rows are_now))
    (rise_then seen turn turns rising) own.1 in
    ((answer, more.0), more.1)

pub turns_are_meant : TurnsAreMeant
turns_are_meant configuration place operator known rows after turns are =
    let rising = rise_of configuration place operator known rows turns after are in (
      rising,
      λ seen begins rows_are served.
          answers_of configuration operator seen rows turns after rows_are
          (rise_from (publications_of seen) known turns begins rising)
          (own_of configuration place operator known rows turns after are served),
    )

-- ---- turns after turns

-- turns of a desk that knew more are turns of a desk that knew less
from_less : (configuration : Configuration) (place : ℕ) (operator : Operator) (known learnt : List Publication) (rows : Rows) (turns : List Turn) (after : Rows) → IsPrefix known learnt → AreTurns configuration place operator learnt rows turns after → AreTurns configuration place operator known rows turns after
from_less configuration place operator known learnt rows [] after begins are = are
from_less configuration place operator known learnt rows (turn ∷ turns) after begins are =
    (are.0, record { begins = prefix_on known learnt turn.front begins are.1.begins; answer = are.1.answer }, are.2)

pub turns_are_joined : TurnsAreJoined
turns_are_joined configuration place operator known learnt rows between after [] more are begins rest =
    from_less configuration place operator known learnt rows more after begins
    (subst (λ r. AreTurns configuration place operator learnt r more after) are rest)
turns_are_joined configuration place operator known learnt rows between after (turn ∷ turns) more are begins rest =
    (are.0, are.1, turns_are_joined configuration place operator turn.front learnt are.0 between after turns more are.2 begins rest)

-- ---- turns that aren't served

-- a reply with status 503 to an operator's own step doesn't change the rows
own_leaves : (configuration : Configuration) (operator : Operator) (front : List Publication) (rows : Rows) (request : Request) → (own_step configuration operator front rows request).0.status ≡ 503 → (own_step configuration operator front rows request).1 ≡ rows
own_leaves configuration operator front rows request out =
    settled_leaves rows (call_of configuration request >>= own_call >>= λ own. operator_does configuration.zone operator front rows own request)
    (succeeds_on (call_of configuration request >>= own_call) _ (λ own. operator_succeeds configuration.zone operator front rows own request))
    (λ ok. false≢true (ap (λ status. status == 200) (sym out ∙ ok)))

unserved_leaves : (configuration : Configuration) (place : ℕ) (operator : Operator) (known : List Publication) (rows : Rows) (turn : Turn) (after : Rows) → IsTurn configuration place operator known rows turn after → is_served configuration place turn ≡ false → after ≡ rows
unserved_leaves configuration place operator known rows turn after is other =
    elim is.answer [
      | inl a ↦ a.1 ∙ by (is_of configuration place turn.request) (turn.reply.status == 503) refl other a.0
      | inr a ↦ a.1
    ]
  where
    by : (mine out : Bool) → (turn.reply.status == 503) ≡ out → (mine && not out) ≡ false → turn.reply ≡ (cond mine (own_step configuration operator turn.front rows turn.request) (refused (refusal_of (call_of configuration turn.request)), rows)).0 → (cond mine (own_step configuration operator turn.front rows turn.request) (refused (refusal_of (call_of configuration turn.request)), rows)).1 ≡ rows
    by false out gone h said = refl
    by true false gone h said = absurd (false≢true (sym h))
    by true true gone h said =
        own_leaves configuration operator turn.front rows turn.request (sym (ap (λ r. r.status) said) ∙ eqb-true turn.reply.status 503 gone)

last_less : (known learnt : List Publication) (turns : List Turn) → IsPrefix known learnt → IsPrefix (last_front known turns) (last_front learnt turns)
last_less known learnt [] begins = begins
last_less known learnt (turn ∷ turns) begins = prefix_self (last_front turn.front turns)

module _ (configuration : Configuration) (place : ℕ) (operator : Operator) where
  abbrev Serves : List Publication → Rows → List Turn → Rows → List Publication → Type 0
  Serves known rows served after last =
      AreTurns configuration place operator known rows served after × (list_all (is_served configuration place) served ≡ true)
      × IsPrefix (last_front known served) last

  serves : (known : List Publication) (rows : Rows) (turns : List Turn) (after : Rows) → AreTurns configuration place operator known rows turns after → Serves known rows (served_in configuration place turns) after (last_front known turns)
  serves known rows [] after are = (are, refl, prefix_self known)
  serves known rows (turn ∷ turns) after are = by (is_served configuration place turn) refl (serves turn.front are.0 turns after are.2)
    where
      by : (b : Bool) → is_served configuration place turn ≡ b → Serves turn.front are.0 (served_in configuration place turns) after (last_front turn.front turns) → Serves known rows (cond b (turn ∷ served_in configuration place turns) (served_in configuration place turns)) after (last_front turn.front turns)
      by true is rest = (
        (are.0, are.1, rest.0),
        ap (λ b. b && list_all (is_served configuration place) (served_in configuration place turns)) is ∙ rest.1,
        rest.2,
      )
      by false is rest = (
        from_less configuration place operator known turn.front rows (served_in configuration place turns) after are.1.begins
            (subst (λ r. AreTurns configuration place operator turn.front r (served_in configuration place turns) after)
            (unserved_leaves configuration place operator known rows turn are.0 are.1 is) rest.0),
        rest.1,
        prefix_on (last_front known (served_in configuration place turns)) (last_front turn.front (served_in configuration place turns)) (last_front turn.front turns)
            (last_less known turn.front (served_in configuration place turns) are.1.begins) rest.2,
      )

pub served_are_turns : ServedAreTurns
served_are_turns configuration place operator known rows after turns are = serves configuration place operator known rows turns after are

-- ---- runs

pub run_of_turns : (configuration : Configuration) (place : ℕ) (operator : Operator) (known : List Publication) (rows : Rows) (turns : List Turn) (after : Rows) → AreTurns configuration place operator known rows turns after → IsRun configuration place operator known rows (requests_in turns) (replies_in turns) (last_front known turns) after
run_of_turns configuration place operator known rows turns after are =
    let meant = turns_are_meant configuration place operator known rows after turns are in
    record { turns = turns; asks = refl; tells = refl; are = are; rising = meant.0; meant = meant.1; last = refl }

pub no_turns : (configuration : Configuration) (place : ℕ) (operator : Operator) (known : List Publication) (rows : Rows) → IsRun configuration place operator known rows [] [] known rows
no_turns configuration place operator known rows = run_of_turns configuration place operator known rows [] rows refl

pub one_more_turn : (configuration : Configuration) (place : ℕ) (operator : Operator) (known : List Publication) (rows : Rows) (requests : List Request) (replies : List Reply) (between_known : List Publication) (between : Rows) (turn : Turn) (after : Rows) → IsRun configuration place operator known rows requests replies between_known between → IsTurn configuration place operator between_known between turn after → IsRun configuration place operator known rows (requests ++ turn.request ∷ []) (replies ++ turn.reply ∷ []) turn.front after
one_more_turn configuration place operator known rows requests replies between_known between turn after run is =
    let turns = run.turns ++ turn ∷ [] in
    let are = turns_are_joined configuration place operator known between_known rows between after run.turns (turn ∷ []) run.are
    (subst (IsPrefix (last_front known run.turns)) (sym run.last) (prefix_self (last_front known run.turns)))
    (after, is, refl) in
    let meant = turns_are_meant configuration place operator known rows after turns are in
    record {
      turns = turns;
      asks = map-append (λ turn. turn.request) run.turns (turn ∷ []) ∙ ap (λ rs. rs ++ turn.request ∷ []) run.asks;
      tells = map-append (λ turn. turn.reply) run.turns (turn ∷ []) ∙ ap (λ rs. rs ++ turn.reply ∷ []) run.tells;
      are = are;
      rising = meant.0;
      meant = meant.1;
      last = sym (last_on known run.turns (turn ∷ []));
    }
