-- Exchanges that aren't persisted change nothing; runs of those that are.
use Rattle.std.proofs.Common.{◌≡◌, ◌≢◌, ℕ, zero, suc, Bool, true, false, cond, List, [], ◌∷◌, ◌++◌, set, get_or, drop}
use Rattle.std.proofs.Common.{Option, Some, None, Result, Ok, Err, ◌⊎◌, inl, inr, refl, sym, ap, subst, ◌∙◌, arith}
use Rattle.std.specs.Prelude.{◌&&◌, ◌==◌}
use Rattle.std.specs.List.{slice_get}
use Rattle.std.proofs.lemmas.Bool.{eqb-true}
use Rattle.mds_catalog.specs.Publication.{Publication}
use Rattle.mds_drafts.specs.Drafts.{Drafts}
use Rattle.mds_fleet.specs.Books.{Rows}
use Rattle.mds_match.specs.declared.zone.Zone.{Zone}
use Rattle.mds_request.specs.Configuration.{Configuration, Operator}
use Rattle.mds_request.specs.Call.{call_of}
use Rattle.mds_request.specs.Request.{Request}
use Rattle.mds_request.specs.Reply.{Reply, refused}
use Rattle.mds_request.specs.declared.call.AuthorCall.{AuthorCall}
use Rattle.mds_request.specs.declared.call.AuthorCall.TheVariants as author
use Rattle.mds_request.specs.declared.call.Call.{Call}
use Rattle.mds_request.specs.declared.call.Call.TheVariants as call
use Rattle.mds_request.specs.declared.call.OperatorCall.{OperatorCall}
use Rattle.mds_request.specs.declared.call.OperatorCall.TheVariants as operators
use Rattle.mds_request.specs.declared.code.Code.{Code}
use Rattle.mds_request.specs.declared.code.Code.TheVariants.{NoMemory, Token}
use Rattle.mds_machine.specs.Answer.{settled, or_code, leaving, ◌>>=◌}
use Rattle.mds_machine.specs.Author.{author_does}
use Rattle.mds_machine.specs.Laws.{RefusedLeaves, IsDetermined}
use Rattle.mds_machine.specs.Meaning.{own_call}
use Rattle.mds_machine.specs.Operator.{operator_does}
use Rattle.mds_machine.specs.Step.{State, Exchange, Step, Run, with_rows, call_does}
use Rattle.journal_laws.specs.Persisted.{may_change, is_kept, kept, requests_in, AreSuccesses}

abbrev call_step : State → Result Call Code → Request → Reply × State
call_step w call request = settled w (call >>= λ c. call_does w c request)

abbrev authored : State → Result (Reply × (Drafts × List Publication)) Code → Reply × State
authored w own =
    settled w (own >>= λ after. Ok (after.0, record { configuration = w.configuration; publications = after.1.1; drafts = after.1.0; fleets = w.fleets }))

abbrev operator_step : State → ℕ → Option Operator → Option Rows → OperatorCall → Request → Reply × State
operator_step w place found held call request =
    settled w (or_code Token found >>= λ operator. or_code Token held >>= λ rows.
    operator_does w.configuration.zone operator w.publications rows call request >>= λ after. Ok (after.0, with_rows w place after.1))

abbrev lifted : State → ℕ → Result (Reply × Rows) Code → Reply × State
lifted w place own = settled w (own >>= λ after. Ok (after.0, with_rows w place after.1))

-- ---- what leaves the state unchanged

set_same : (fleets : List Rows) (place : ℕ) (rows : Rows) → slice_get fleets place ≡ Some rows → set fleets place rows ≡ fleets
set_same [] place rows is = refl
set_same (x ∷ fleets) zero rows is = ap (λ (r : Rows). r ∷ fleets) (rows_are x rows is) where
  rows_are : (x rows : Rows) → Option.Some x ≡ Some rows → rows ≡ x
  rows_are x rows is = cc
set_same (x ∷ fleets) (suc place) rows is = ap (λ (f : List Rows). x ∷ f) (set_same fleets place rows is)

read_left : (w : State) (place : ℕ) (rows : Rows) (answer : Result Reply Code) → slice_get w.fleets place ≡ Some rows
    → (lifted w place (answer >>= leaving rows)).1 ≡ w
read_left w place rows (Err code) held = refl
read_left w place rows (Ok reply) held = ap (λ (f : List Rows). record w { fleets = f }) (set_same w.fleets place rows held)

told_left : (w : State) (place : ℕ) (rows : Rows) → slice_get w.fleets place ≡ Some rows → with_rows w place rows ≡ w
told_left w place rows held = ap (λ (f : List Rows). record w { fleets = f }) (set_same w.fleets place rows held)

operator_left : (w : State) (place at : ℕ) (found : Option Operator) (held : Option Rows) (own : OperatorCall) (request : Request)
    → slice_get w.fleets place ≡ held → may_change (Ok (call.Operator at own)) ≡ false → (operator_step w place found held own request).1 ≡ w
operator_left w place at None held own request is reads = refl
operator_left w place at (Some operator) None own request is reads = refl
operator_left w place at (Some operator) (Some rows) operators.Policies request is reads = told_left w place rows is
operator_left w place at (Some operator) (Some rows) (operators.Policy id) request is reads = read_left w place rows _ is
operator_left w place at (Some operator) (Some rows) operators.Geographies request is reads = told_left w place rows is
operator_left w place at (Some operator) (Some rows) (operators.Geography id) request is reads = read_left w place rows _ is
operator_left w place at (Some operator) (Some rows) operators.Report request is reads = absurd cc
operator_left w place at (Some operator) (Some rows) operators.Vehicles request is reads = told_left w place rows is
operator_left w place at (Some operator) (Some rows) (operators.RemoveVehicle device) request is reads = absurd cc
operator_left w place at (Some operator) (Some rows) operators.Compliance request is reads = told_left w place rows is
operator_left w place at (Some operator) (Some rows) (operators.PolicyCompliance id) request is reads = read_left w place rows _ is

author_read : (w : State) (answer : Result Reply Code) → (authored w (answer >>= leaving (w.drafts, w.publications))).1 ≡ w
author_read w (Err code) = refl
author_read w (Ok reply) = refl

author_left : (w : State) (own : AuthorCall) (request : Request) → may_change (Ok (call.Author own)) ≡ false
    → (authored w (author_does w.drafts w.publications own request)).1 ≡ w
author_left w author.Policies request reads = refl
author_left w (author.Policy id) request reads = author_read w _
author_left w author.Geographies request reads = refl
author_left w (author.Geography id) request reads = author_read w _
author_left w (author.PutDraft kind id) request reads = absurd cc
author_left w (author.Draft kind id) request reads = author_read w _
author_left w (author.DropDraft kind id) request reads = absurd cc
author_left w author.Publish request reads = absurd cc

call_left : (w : State) (called : Result Call Code) (request : Request) → may_change called ≡ false → (call_step w called request).1 ≡ w
call_left w (Err code) request reads = refl
call_left w (Ok (call.Author own)) request reads = author_left w own request reads
call_left w (Ok (call.Operator place own)) request reads =
    operator_left w place place (slice_get w.configuration.operators place) (slice_get w.fleets place) own request refl reads

one_false : (a b : Bool) → (a && b) ≡ false → (a ≡ false) ⊎ (b ≡ false)
one_false true b e = inr e
one_false false b e = inl refl

not_200 : (status : ℕ) → (status == 200) ≡ false → status ≢ 200
not_200 status reads is = grind (arith, reads, is)

pub step_left : RefusedLeaves → (w : State) (request : Request) (reply : Reply) (next : State) → Step w request reply next
    → is_kept w.configuration (record { request = request; reply = reply }) ≡ false → next ≡ w
step_left leaves w request reply next step reads = elim (one_false (may_change (call_of w.configuration request)) (reply.status == 200) reads) [
  | inl only_reads ↦ elim step [
    | inl a ↦ a.1 ∙ call_left w (call_of w.configuration request) request only_reads
    | inr a ↦ a.2
  ]
  | inr failed ↦ leaves w request reply next step (not_200 reply.status failed)
]

-- ---- the configuration stays

lifted_same : (w : State) (place : ℕ) (own : Result (Reply × Rows) Code) → (lifted w place own).1.configuration ≡ w.configuration
lifted_same w place (Err code) = refl
lifted_same w place (Ok after) = refl

operator_same : (w : State) (place : ℕ) (found : Option Operator) (held : Option Rows) (own : OperatorCall) (request : Request)
    → (operator_step w place found held own request).1.configuration ≡ w.configuration
operator_same w place None held own request = refl
operator_same w place (Some operator) None own request = refl
operator_same w place (Some operator) (Some rows) own request = lifted_same w place (operator_does w.configuration.zone operator w.publications rows own request)

authored_same : (w : State) (own : Result (Reply × (Drafts × List Publication)) Code) → (authored w own).1.configuration ≡ w.configuration
authored_same w (Err code) = refl
authored_same w (Ok after) = refl

call_same : (w : State) (called : Result Call Code) (request : Request) → (call_step w called request).1.configuration ≡ w.configuration
call_same w (Err code) request = refl
call_same w (Ok (call.Author own)) request = authored_same w (author_does w.drafts w.publications own request)
call_same w (Ok (call.Operator place own)) request = operator_same w place (slice_get w.configuration.operators place) (slice_get w.fleets place) own request

step_same : (w : State) (request : Request) (reply : Reply) (next : State) → Step w request reply next → next.configuration ≡ w.configuration
step_same w request reply next step = elim step [
  | inl a ↦ ap (λ s. s.configuration) a.1 ∙ call_same w (call_of w.configuration request) request
  | inr a ↦ ap (λ s. s.configuration) a.2
]

-- ---- runs

kept_step : RefusedLeaves → (b : Bool) (w between next : State) (e : Exchange) (rest : List Exchange) → is_kept w.configuration e ≡ b
    → Step w e.request e.reply between → Run between rest next → Run w (cond b (e ∷ rest) rest) next
kept_step leaves true w between next e rest is s r = (between, s, r)
kept_step leaves false w between next e rest is s r = subst (λ v. Run v rest next) (step_left leaves w e.request e.reply between s is) r

pub kept_runs : RefusedLeaves → (w next : State) (history : List Exchange) → Run w history next → Run w (kept w.configuration history) next
kept_runs leaves w next [] r = r
kept_runs leaves w next (e ∷ history) r =
    let others : Run r.0 (kept w.configuration history) next =
    subst (λ c. Run r.0 (kept c history) next) (step_same w e.request e.reply r.0 r.1) (kept_runs leaves r.0 next history r.2) in
    kept_step leaves (is_kept w.configuration e) w r.0 next e (kept w.configuration history) refl r.1 others

both_true : (a b : Bool) → (a && b) ≡ true → b ≡ true
both_true true b e = e
both_true false b e = absurd cc

kept_one : (configuration : Configuration) (b : Bool) (e : Exchange) (rest : List Exchange) → is_kept configuration e ≡ b
    → AreSuccesses rest → AreSuccesses (cond b (e ∷ rest) rest)
kept_one configuration true e rest is all = (eqb-true e.reply.status 200 (both_true (may_change (call_of configuration e.request)) (e.reply.status == 200) is), all)
kept_one configuration false e rest is all = all

pub all_kept : (configuration : Configuration) (history : List Exchange) → AreSuccesses (kept configuration history)
all_kept configuration [] = tt
all_kept configuration (e ∷ history) = kept_one configuration (is_kept configuration e) e (kept configuration history) refl (all_kept configuration history)

has_memory : (reply : Reply) → reply.status ≡ 200 → reply ≢ refused NoMemory
has_memory reply ok is = omega (arith, ok, ap (λ r. r.status) is)

made : Request → Reply → Exchange
made request reply = record { request = request; reply = reply }

same_exchange : (e f : Exchange) → f.request ≡ e.request → e.reply ≡ f.reply → f ≡ e
unfolding made
same_exchange e f request reply = ap (λ (q : Request). made q f.reply) request ∙ ap (λ (r : Reply). made e.request r) (sym reply)

head_is : (a b : Request) (cs ds : List Request) → a ∷ cs ≡ b ∷ ds → a ≡ b
head_is a b cs ds e = ap (λ (x : List Request). get_or x 0 a) e

rest_is : (a b : Request) (cs ds : List Request) → a ∷ cs ≡ b ∷ ds → cs ≡ ds
rest_is a b cs ds e = ap (λ (x : List Request). drop 1 x) e

not_empty : (a : Request) (cs : List Request) → [] ≡ a ∷ cs → ⊥
not_empty a cs e = absurd cc

pub same_runs : IsDetermined → (w next apart : State) (one two : List Exchange) → Run w one next → Run w two apart → AreSuccesses one
    → AreSuccesses two → requests_in two ≡ requests_in one → (two ≡ one) × (apart ≡ next)
same_runs determined w next apart [] [] r s k l is = (refl, s ∙ sym r)
same_runs determined w next apart [] (f ∷ two) r s k l is = absurd (not_empty _ _ (sym is))
same_runs determined w next apart (e ∷ one) [] r s k l is = absurd (not_empty _ _ is)
same_runs determined w next apart (e ∷ one) (f ∷ two) r s k l is =
    let request : f.request ≡ e.request = head_is f.request e.request (requests_in two) (requests_in one) is in
    let others : requests_in two ≡ requests_in one = rest_is f.request e.request (requests_in two) (requests_in one) is in
    let first : Step w e.request f.reply s.0 = subst (λ (q : Request). Step w q f.reply s.0) request s.1 in
    let d = determined w e.request e.reply f.reply r.0 s.0 r.1 first (has_memory e.reply k.0) (has_memory f.reply l.0) in
    let on = same_runs determined r.0 next apart one two r.2 (subst (λ (v : State). Run v two apart) (sym d.1) s.2) k.1 l.1 others in
    (ap (λ (x : Exchange). x ∷ two) (same_exchange e f request d.0) ∙ ap (λ (x : List Exchange). e ∷ x) on.0, on.1)

pub run_on : (w between next : State) (one two : List Exchange) → Run w one between → Run between two next → Run w (one ++ two) next
run_on w between next [] two r s = subst (λ (v : State). Run v two next) r s
run_on w between next (e ∷ one) two r s = (r.0, r.1, run_on r.0 between next one two r.2 s)

-- ---- rows and publications

read_apart : (rows : Rows) (answer other : Result Reply Code) → (settled rows (answer >>= leaving rows)).1 ≡ (settled rows (other >>= leaving rows)).1
read_apart rows (Ok a) (Ok b) = refl
read_apart rows (Ok a) (Err b) = refl
read_apart rows (Err a) (Ok b) = refl
read_apart rows (Err a) (Err b) = refl

rows_apart : (zone : Zone) (operator : Operator) (publications others : List Publication) (rows : Rows) (own : OperatorCall) (request : Request)
    → (settled rows (operator_does zone operator publications rows own request)).1
    ≡ (settled rows (operator_does zone operator others rows own request)).1
rows_apart zone operator publications others rows operators.Policies request = refl
rows_apart zone operator publications others rows (operators.Policy id) request = read_apart rows _ _
rows_apart zone operator publications others rows operators.Geographies request = refl
rows_apart zone operator publications others rows (operators.Geography id) request = read_apart rows _ _
rows_apart zone operator publications others rows operators.Report request = refl
rows_apart zone operator publications others rows operators.Vehicles request = refl
rows_apart zone operator publications others rows (operators.RemoveVehicle device) request = refl
rows_apart zone operator publications others rows operators.Compliance request = refl
rows_apart zone operator publications others rows (operators.PolicyCompliance id) request = read_apart rows _ _

pub step_apart : (configuration : Configuration) (operator : Operator) (publications others : List Publication) (rows : Rows) (request : Request) (called : Result Call Code)
    → (settled rows (called >>= own_call >>= λ own. operator_does configuration.zone operator publications rows own request)).1
    ≡ (settled rows (called >>= own_call >>= λ own. operator_does configuration.zone operator others rows own request)).1
step_apart configuration operator publications others rows request (Err code) = refl
step_apart configuration operator publications others rows request (Ok (call.Author own)) = refl
step_apart configuration operator publications others rows request (Ok (call.Operator place own)) = rows_apart configuration.zone operator publications others rows own request

own_apart : (zone : Zone) (operator : Operator) (publications others : List Publication) (rows : Rows) (at : ℕ) (own : OperatorCall) (request : Request)
    → may_change (Ok (call.Operator at own)) ≡ true
    → operator_does zone operator publications rows own request ≡ operator_does zone operator others rows own request
own_apart zone operator publications others rows at operators.Policies request is = absurd cc
own_apart zone operator publications others rows at (operators.Policy id) request is = absurd cc
own_apart zone operator publications others rows at operators.Geographies request is = absurd cc
own_apart zone operator publications others rows at (operators.Geography id) request is = absurd cc
own_apart zone operator publications others rows at operators.Report request is = refl
own_apart zone operator publications others rows at operators.Vehicles request is = absurd cc
own_apart zone operator publications others rows at (operators.RemoveVehicle device) request is = refl
own_apart zone operator publications others rows at operators.Compliance request is = absurd cc
own_apart zone operator publications others rows at (operators.PolicyCompliance id) request is = absurd cc

pub changes_apart : (configuration : Configuration) (operator : Operator) (publications others : List Publication) (rows : Rows) (request : Request) (called : Result Call Code)
    → may_change called ≡ true
    → settled rows (called >>= own_call >>= λ own. operator_does configuration.zone operator publications rows own request)
    ≡ settled rows (called >>= own_call >>= λ own. operator_does configuration.zone operator others rows own request)
changes_apart configuration operator publications others rows request (Err code) is = absurd cc
changes_apart configuration operator publications others rows request (Ok (call.Author own)) is = refl
changes_apart configuration operator publications others rows request (Ok (call.Operator place own)) is =
    ap (settled rows) (own_apart configuration.zone operator publications others rows place own request is)

-- ---- prefixes

-- a prefix of a history of which just this is persisted
abbrev StopsAt : Configuration → List Exchange → List Exchange → Type 0
StopsAt configuration history front =
    (before : List Exchange) × (later : List Exchange) × (history ≡ before ++ later) × (kept configuration before ≡ front)

exchange_is : (a b : Exchange) (cs ds : List Exchange) → a ∷ cs ≡ b ∷ ds → a ≡ b
exchange_is a b cs ds e = ap (λ (x : List Exchange). get_or x 0 a) e

others_are : (a b : Exchange) (cs ds : List Exchange) → a ∷ cs ≡ b ∷ ds → cs ≡ ds
others_are a b cs ds e = ap (λ (x : List Exchange). drop 1 x) e

no_exchange : (a : Exchange) (cs : List Exchange) → [] ≡ a ∷ cs → ⊥
no_exchange a cs e = absurd cc

keeps : (configuration : Configuration) (b : Bool) (e : Exchange) (before : List Exchange) → is_kept configuration e ≡ b
    → kept configuration (e ∷ before) ≡ cond b (e ∷ kept configuration before) (kept configuration before)
keeps configuration true e before is = rw is refl
keeps configuration false e before is = rw is refl

stops_by : (configuration : Configuration) (b : Bool) (e : Exchange) (history front rest : List Exchange) → is_kept configuration e ≡ b
    → ((front rest : List Exchange) → kept configuration history ≡ front ++ rest → StopsAt configuration history front)
    → cond b (e ∷ kept configuration history) (kept configuration history) ≡ front ++ rest → StopsAt configuration (e ∷ history) front
stops_by configuration b e history [] rest is on same = ([], e ∷ history, refl, refl)
stops_by configuration true e history (f ∷ front) rest is on same =
    let s = on front rest (others_are e f (kept configuration history) (front ++ rest) same) in
    let first : e ≡ f = exchange_is e f (kept configuration history) (front ++ rest) same in (
      e ∷ s.0,
      s.1,
      ap (λ (x : List Exchange). e ∷ x) s.2,
      keeps configuration true e s.0 is ∙ ap (λ (x : List Exchange). e ∷ x) s.3 ∙ ap (λ (x : Exchange). x ∷ front) first,
    )
stops_by configuration false e history (f ∷ front) rest is on same =
    let s = on (f ∷ front) rest same in
    (e ∷ s.0, s.1, ap (λ (x : List Exchange). e ∷ x) s.2, keeps configuration false e s.0 is ∙ s.3)

nothing_stops : (configuration : Configuration) (front rest : List Exchange) → [] ≡ front ++ rest → StopsAt configuration [] front
nothing_stops configuration [] rest e = ([], [], refl, refl)
nothing_stops configuration (f ∷ front) rest e = absurd (no_exchange _ _ e)

pub stops : (configuration : Configuration) (history front rest : List Exchange) → kept configuration history ≡ front ++ rest
    → StopsAt configuration history front
stops configuration [] front rest same = nothing_stops configuration front rest same
stops configuration (e ∷ history) front rest same =
    stops_by configuration (is_kept configuration e) e history front rest refl (stops configuration history) same
