-- The answers to many reports.
use mathlib.Core.List.{IsPrefix}
use Rattle.std.proofs.Common.{◌≡◌, ◌==◌, ◌<◌, ℕ, zero, suc, Bool, true, false, not, List, [], ◌∷◌, ◌++◌, length, map, take, drop, get_or, ◌+◌, ◌-◌}
use Rattle.std.proofs.Common.{length-drop, Option, Some, Result, Ok, Err, IfOk, inl, inr, refl, sym, ap, subst, ◌∙◌, arith}
use Rattle.std.specs.List.{list_all, slice_get}
use Rattle.std.proofs.Math.Seq.{take-length}
use Rattle.std.proofs.lemmas.List.{append-nil, length-map, map-append}
use Rattle.http.specs.declared.response.Response.{Response}
use Rattle.http_body_util.specs.declared.full.Full.{Full}
use Rattle.mds_catalog.specs.Publication.{Publication}
use Rattle.journal_commit.specs.Durable.{AreLast, chosen}
use Rattle.mds_machine.specs.Step.{Exchange}
use Rattle.mds_request.specs.Configuration.{Configuration}
use Rattle.mds_request.specs.Request.{Request}
use Rattle.mds_request.specs.Reply.{Reply, refused}
use Rattle.mds_request.specs.declared.code.Code.{Code}
use Rattle.journal_laws.specs.Persisted.{requests_in}
use Rattle.mds_desk.specs.Desk.{DeskState, TakesRun}
use Rattle.mds_desk.proofs.Running.{begins}
use Rattle.server_state.specs.Response.{Says}
use Rattle.server_state.specs.Openings.{Openings}
use Rattle.server_state.specs.Turn.{IsDeskAt, TakesToldRun}
use Rattle.server_durable.specs.Many.{AreRecorded, AreRecordsOf, AreRefusedBehind, Continues, IsHalted}
use Rattle.server_durable.specs.Many.{IsRefusedWhole, SaysAll, accepted, exchanges, reports_of}
use Rattle.server_durable.specs.ManyAnswers.{IsAnsweredInPart, IsListedRun, IsRecordedRun, ManyAreAnswered}
use Rattle.server_durable.specs.CacheControl.{Waits}
use Rattle.server_durable.specs.declared.many.Halt.{Halt}
use Rattle.server_durable.specs.declared.many.Halt.TheVariants.{Unheld, NotTold}
use Rattle.server_durable.specs.declared.pending.NoResponse.{NoResponse}
use Rattle.server_durable.proofs.Accepted.{all_recorded, chosen_are_theirs, taken_more}
use Rattle.server_durable.proofs.Among.{later_among}
use Rattle.server_durable.proofs.Responses.{ok_more, waits_more}
use Rattle.server_durable.proofs.Runs.{desk_run_on, same_told}
use Rattle.server_durable.proofs.Turns.{first_true, second_true}

-- a list from a place on
pub rest_is : {A : Type 0} (n : ℕ) (items : List A) → take (length items - n) (drop n items) ≡ drop n items
rest_is n items = ap (λ k. take k (drop n items)) (sym (length-drop n items)) ∙ take-length (drop n items)

pub found_at : {A : Type 0} (items : List A) (i : ℕ) → i < length items → (item : A) × (slice_get items i ≡ Some item)
found_at [] i within = absurd (omega (arith, within))
found_at (item ∷ items) zero within = (item, refl)
found_at (item ∷ items) (suc i) within = found_at items i (omega (arith, within))

-- a run has as many replies as requests
pub as_many : (d next : DeskState) (requests : List Request) (replies : List Reply) → d.place < length d.configuration.operators
    → TakesRun d requests replies next → length replies ≡ length requests
as_many d next requests replies within takes =
    let found = found_at d.configuration.operators d.place within in
    let run = takes.run found.0 found.1 in
    ap length (sym run.tells) ∙ length-map run.turns (λ turn. turn.reply) ∙ sym (length-map run.turns (λ turn. turn.request)) ∙ ap length run.asks

-- also after a note
pub as_many_told : (d next : DeskState) (note : Option (List Publication)) (requests : List Request) (replies : List Reply) → d.place < length d.configuration.operators
    → TakesToldRun d note requests replies next → length replies ≡ length requests
as_many_told d next note requests replies within takes =
    let same = same_told d note takes.told takes.learns in
    as_many takes.told next requests replies
    (subst (λ (c : Configuration). takes.told.place < length c.operators) (sym same.configuration)
    (subst (λ (p : ℕ). p < length d.configuration.operators) (sym same.place) within)) takes.run

-- a desk of a configuration has its place in it
its_place : (configuration : Configuration) (place : ℕ) (d : DeskState) → place < length configuration.operators → IsDeskAt configuration place d
    → d.place < length d.configuration.operators
its_place configuration place d within its =
    subst (λ (c : Configuration). d.place < length c.operators) (sym its.configured)
    (subst (λ (p : ℕ). p < length configuration.operators) (sym its.placed) within)

-- ---- records

-- a record that is among payloads is among more of them
pub recorded_later : (configuration : Configuration) (history : List Exchange) (stamp later : List (List ℕ)) → IsPrefix stamp later
    → AreRecorded configuration history stamp → AreRecorded configuration history later
recorded_later configuration [] stamp later front all = tt
recorded_later configuration (e ∷ history) stamp later front all = (
  (λ success. let has = all.0 success in (has.0, has.1, later_among has.0 stamp later has.2 front)),
  recorded_later configuration history stamp later front all.1,
)

both_recorded : (configuration : Configuration) (first then : List Exchange) (stamp : List (List ℕ)) → AreRecorded configuration first stamp
    → AreRecorded configuration then stamp → AreRecorded configuration (first ++ then) stamp
both_recorded configuration [] then stamp all more = more
both_recorded configuration (e ∷ first) then stamp all more = (all.0, both_recorded configuration first then stamp all.1 more)

pub exchanges_on : (requests more : List Request) (replies others : List Reply) → length replies ≡ length requests
    → exchanges (requests ++ more) (replies ++ others) ≡ exchanges requests replies ++ exchanges more others
exchanges_on [] more [] others same = refl
exchanges_on [] more (reply ∷ replies) others same = absurd cc
exchanges_on (request ∷ requests) more [] others same = absurd cc
exchanges_on (request ∷ requests) more (reply ∷ replies) others same =
    ap (λ (history : List Exchange). record { request = request; reply = reply } ∷ history)
    (exchanges_on requests more replies others (let e : length replies ≡ length requests = omega (arith, same) in e))

-- requests whose reservations were completed by their answers are recorded
pub settled_are_recorded : (configuration : Configuration) (requests : List Request) (replies : List Reply) (texts stamp : List (List ℕ)) (flags : List Bool)
    → AreRecordsOf configuration requests texts → flags ≡ map (λ reply. reply.status == 200) replies → AreLast (chosen flags texts) stamp
    → AreRecorded configuration (exchanges requests replies) stamp
settled_are_recorded configuration requests replies texts stamp flags are noted last =
    subst (λ (ts : List (List ℕ)). AreRecorded configuration (exchanges requests replies) ts) (sym last.1)
    (all_recorded configuration (exchanges requests replies) last.0 (chosen flags texts)
    (subst (λ (fs : List Bool). AreRecordsOf configuration (requests_in (accepted (exchanges requests replies))) (chosen fs texts)) (sym noted)
    (chosen_are_theirs configuration requests replies texts are)))

one_refused : (b : Bool) (status : ℕ) → (status == 200) ≡ b → not b ≡ true → status ≡ 200 → ⊥
one_refused true status is other success = cc
one_refused false status is other success = let e : (200 == 200) ≡ false = subst (λ (n : ℕ). (n == 200) ≡ false) success is in cc e

-- where none was accepted, there is nothing to record
pub refused_are_recorded : (configuration : Configuration) (requests : List Request) (replies : List Reply) (stamp : List (List ℕ))
    → list_all (λ (reply : Reply). not (reply.status == 200)) replies ≡ true → AreRecorded configuration (exchanges requests replies) stamp
refused_are_recorded configuration [] replies stamp all = tt
refused_are_recorded configuration (request ∷ requests) [] stamp all = tt
refused_are_recorded configuration (request ∷ requests) (reply ∷ replies) stamp all =
    let others = list_all (λ (r : Reply). not (r.status == 200)) replies in (
      (λ success. absurd (one_refused (reply.status == 200) reply.status refl (first_true (not (reply.status == 200)) others all) success)),
      refused_are_recorded configuration requests replies stamp (second_true (not (reply.status == 200)) others all),
    )

-- one request more is refused
pub refused_more : {A : Type 0} (request : A → Request) (told : Reply) (lent : List A) (i : ℕ) (item : A) (was now : List Reply) → i < length lent
    → item ≡ get_or lent i item → now ≡ was ++ told ∷ [] → was ≡ map (λ (r : Request). told) (map request (take i lent))
    → now ≡ map (λ (r : Request). told) (map request (take (i + 1) lent))
refused_more request told lent i item was now within here more is =
    more ∙ ap (λ (xs : List Reply). xs ++ told ∷ []) is
    ∙ sym (map-append (λ (r : Request). told) (map request (take i lent)) (request item ∷ []))
    ∙ ap (map (λ (r : Request). told)) (sym (map-append request (take i lent) (item ∷ [])))
    ∙ ap (λ xs. map (λ (r : Request). told) (map request xs)) (sym (taken_more lent i item within here))

-- ---- one chunk after another

-- the progress: a run of the desk of the operator at this place answered these requests
pub record Reached (configuration : Configuration) (place : ℕ) (requests : List Request) (replies : List Reply) (stamp : List (List ℕ)) (now : DeskState) : Type 0 where
  pub start : DeskState
  pub is_its : IsDeskAt configuration place start
  pub run : TakesRun start requests replies now
  pub recorded : AreRecorded configuration (exchanges requests replies) stamp

-- it has as many replies as requests
pub as_many_reached : (configuration : Configuration) (place : ℕ) (requests : List Request) (replies : List Reply) (stamp : List (List ℕ)) (now : DeskState)
    → place < length configuration.operators → Reached configuration place requests replies stamp now → length replies ≡ length requests
as_many_reached configuration place requests replies stamp now within reached =
    as_many reached.start now requests replies (its_place configuration place reached.start within reached.is_its) reached.run

pub reached_none : (configuration : Configuration) (place : ℕ) (stamp : List (List ℕ)) (d : DeskState) → IsDeskAt configuration place d
    → Reached configuration place [] [] stamp d
reached_none configuration place stamp d its = record { start = d; is_its = its; run = begins d; recorded = tt }

-- a chunk more
pub reached_more : (configuration : Configuration) (place : ℕ) (requests : List Request) (replies : List Reply) (stamp : List (List ℕ)) (now : DeskState)
    (more : List Request) (next : DeskState) (own : List Reply) (later : List (List ℕ)) → place < length configuration.operators → 0 < length more
    → Reached configuration place requests replies stamp now → Continues configuration now stamp more next own later
    → Reached configuration place (requests ++ more) (replies ++ own) later next
reached_more configuration place requests replies stamp now [] next own later within some reached further = absurd (omega (arith, some))
reached_more configuration place requests replies stamp now (request ∷ more) next own later within some reached further =
    let same = as_many_reached configuration place requests replies stamp now within reached in
    record {
      start = reached.start;
      is_its = reached.is_its;
      run = desk_run_on reached.start now next further.note requests replies request more own reached.run further.run;
      recorded =
          subst (λ (history : List Exchange). AreRecorded configuration history later) (sym (exchanges_on requests (request ∷ more) replies own same))
          (both_recorded configuration (exchanges requests replies) (exchanges (request ∷ more) own) later
          (recorded_later configuration (exchanges requests replies) stamp later further.longer reached.recorded) further.recorded);
    }

run_of : (configuration : Configuration) (openings : Openings) (place : ℕ) (requests : List Request) (replies : List Reply) (stamp : List (List ℕ)) (now : DeskState)
    → Reached configuration place requests replies stamp now → IsListedRun configuration openings place requests replies now stamp
    → IsRecordedRun configuration openings place requests replies stamp
run_of configuration openings place requests replies stamp now reached listed =
    record {
      run = record { before = reached.start; after = now; is_its = reached.is_its; run = reached.run };
      recorded = reached.recorded;
      listed = listed;
    }

-- all are answered
pub all_answered : (configuration : Configuration) (openings : Openings) (place : ℕ) (requests : List Request) (replies : List Reply) (stamp : List (List ℕ)) (now : DeskState)
    → Reached configuration place requests replies stamp now → IsListedRun configuration openings place requests replies now stamp
    → IsAnsweredInPart configuration openings place requests replies stamp
all_answered configuration openings place requests replies stamp now reached listed =
    record {
      asked = requests;
      unasked = [];
      cut = sym (append-nil requests);
      own = replies;
      others = [];
      told = sym (append-nil replies);
      run = run_of configuration openings place requests replies stamp now reached listed;
      rest = inl (refl, refl);
    }

-- a prefix is answered, and the others are refused
pub some_answered : (configuration : Configuration) (openings : Openings) (place : ℕ) (requests rest : List Request) (replies others all : List Reply) (stamp : List (List ℕ)) (now : DeskState)
    → Reached configuration place requests replies stamp now → IsListedRun configuration openings place requests replies now stamp
    → all ≡ replies ++ others → AreRefusedBehind rest others → IsAnsweredInPart configuration openings place (requests ++ rest) all stamp
some_answered configuration openings place requests rest replies others all stamp now reached listed is refuses =
    record {
      asked = requests;
      unasked = rest;
      cut = refl;
      own = replies;
      others = others;
      told = is;
      run = run_of configuration openings place requests replies stamp now reached listed;
      rest = inr refuses;
    }

-- the same of a result that says so
pub some_answered_of : {V E : Type 0} (replies : V → List Reply) (stamp : V → List (List ℕ)) (configuration : Configuration) (openings : Openings) (place : ℕ) (requests rest whole : List Request)
    (so_far : List Reply) (texts : List (List ℕ)) (now : DeskState) (result : Result V E) → whole ≡ requests ++ rest → Reached configuration place requests so_far texts now
    → IsListedRun configuration openings place requests so_far now texts
    → IfOk result (λ all. (others : List Reply) × (replies all ≡ so_far ++ others) × AreRefusedBehind rest others × (stamp all ≡ texts))
    → IfOk result (λ all. IsAnsweredInPart configuration openings place whole (replies all) (stamp all))
some_answered_of replies stamp configuration openings place requests rest whole so_far texts now result is reached listed refuses =
    ok_more result (λ all behind.
    subst (λ (ts : List (List ℕ)). IsAnsweredInPart configuration openings place whole (replies all) ts) (sym behind.3)
    (subst (λ (rs : List Request). IsAnsweredInPart configuration openings place rs (replies all) texts) (sym is)
    (some_answered configuration openings place requests rest so_far behind.0 (replies all) texts now reached listed behind.1 behind.2))) refuses

-- ---- the response

module _ {V E : Type 0} (reply : V → Option (Response (Full (List ℕ)))) (stamp : V → List (List ℕ)) (configuration : Configuration) (openings : Openings) (place : ℕ) (request : Request) where
  -- the body is refused as a whole
  pub told_whole : (result : Result V E) (code : Code) → IsRefusedWhole request code → IfOk result (λ s. Waits (λ response. Says response (refused code)) (reply s))
      → IfOk result (λ s. Waits (ManyAreAnswered configuration openings place request (stamp s)) (reply s))
  told_whole result code why told = ok_more result (λ s. waits_more (reply s) (λ response says. inl (inr (code, why, says)))) told

  -- they are answered
  pub told_run : (result : Result V E) (requests : List Request) (replies : List Reply) (texts : List (List ℕ)) → requests ≡ reports_of request
      → IsAnsweredInPart configuration openings place requests replies texts
      → IfOk result (λ s. Waits (λ response. SaysAll response replies) (reply s)) → IfOk result (λ s. stamp s ≡ texts)
      → IfOk result (λ s. Waits (ManyAreAnswered configuration openings place request (stamp s)) (reply s))
  told_run (Ok s) requests replies texts are answered says is =
      let here = subst (λ (ts : List (List ℕ)). IsAnsweredInPart configuration openings place requests replies ts) (sym is) answered in (
        says.0,
        says.1,
        says.2,
        says.3,
        inr (record {
          replies = replies;
          answered = subst (λ (rs : List Request). IsAnsweredInPart configuration openings place rs replies (stamp s)) are here;
          says = says.4;
        }),
      )
  told_run (Err e) requests replies texts are answered says is = tt

-- none of them is carried out
pub told_halted : {V : Type 0} (reply : V → Option (Response (Full (List ℕ)))) (stamp : V → List (List ℕ)) (configuration : Configuration) (openings : Openings) (place : ℕ) (request : Request)
    (result : Result V NoResponse) (halt : Halt) → IsHalted reply halt result → IfOk result (λ s. Waits (ManyAreAnswered configuration openings place request (stamp s)) (reply s))
told_halted reply stamp configuration openings place request result (Unheld why) told =
    ok_more result (λ s. waits_more (reply s) (λ response says. inl (inl (why, says)))) told
told_halted reply stamp configuration openings place request result (NotTold fault) untold =
    subst (λ r. IfOk r (λ s. Waits (ManyAreAnswered configuration openings place request (stamp s)) (reply s))) (sym untold) tt
