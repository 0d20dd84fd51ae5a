-- What is refused by its method, and what `allow` lists.
use Rattle.std.proofs.Common.{◌≡◌, ◌++◌, ◌∷◌, [], List, ℕ, Bool, true, false, cond, ◌||◌, map, IsSome, Option, Some, None, option_map, Result, Ok, Err, unwrap_or, refl, sym, ap, subst, ◌∙◌}
use Rattle.std.specs.Str.{IsUtf8}
use Rattle.std.proofs.lemmas.List.{append-nil}
use Rattle.mds_request.specs.Call.{Row, call_among, call_with, called_at, id_in, is_verb, made, path_of, rows_at, segments_in}
use Rattle.mds_request.specs.declared.call.Call.{Call}
use Rattle.mds_request.specs.declared.code.Code.{Code}
use Rattle.mds_request.specs.declared.code.Code.TheVariants.{Method, NoRoute}
use Rattle.mds_request.specs.declared.config.Actor.{Actor}
use Rattle.mds_request.specs.declared.config.Actor.TheVariants.{Author, Operator, Nobody}
use Rattle.mds_request.specs.declared.request.Verb.{Verb}
use Rattle.mds_request.specs.declared.request.Verb.TheVariants.{Get, Put, Post, Delete, Other}
use Rattle.server_responses.specs.Methods.{beside_at, methods_at, methods_in, name_of}
use Rattle.server_routes.specs.Allowed.{ListsCalls, RefusesUnlisted, has_verb, rows_of, verbs_for}
use Rattle.server_routes.specs.App.{by_verb, call_at, verb_for}
use Rattle.server_routes.specs.State.{app_call, own_call}
use Rattle.server_routes.specs.declared.app.AppCall.{AppCall}
use Rattle.server_routes.specs.declared.app.AppCall.TheVariants.{Events, Fleet, FleetOf, NoOperator, Told}
use Rattle.server_routes.specs.declared.app.FleetView.TheVariants.{Compliance, Vehicles}
use Rattle.server_routes.specs.declared.app.Question.TheVariants.{Whoami, Withdrawals, Drafts}
use Rattle.server_routes.specs.declared.state.StateCall.{StateCall}
use Rattle.server_routes.proofs.Apart.{are_apart, by_app}
use Rattle.server_routes.proofs.Beside.{or_parts, same}

-- the rows next to the protocol's, by the call that there is
abbrev AreOf : List Row → Option AppCall → Type 0
AreOf rows found = map (λ r. r.verb) rows ≡ verbs_for found

none_of : (rows : List Row) → AreOf rows None → rows ≡ []
none_of [] e = refl
none_of (r ∷ rows) e = cc

one_of : (rows : List Row) (verb : Verb) → map (λ r. r.verb) rows ≡ verb ∷ [] → (r : Row) × (rows ≡ r ∷ []) × (r.verb ≡ verb)
one_of [] verb e = cc
one_of (r ∷ []) verb e = (r, refl, cc)
one_of (r ∷ q ∷ rows) verb e = cc

-- all rows of a path, where no call outside the protocol's has it
without : (path : List ℕ) → IsUtf8 path → call_at path ≡ None → rows_of (segments_in path) ≡ rows_at (segments_in path)
without path text none =
    let empty : beside_at (segments_in path) ≡ [] = none_of (beside_at (segments_in path)) (same path text ∙ ap verbs_for none) in
    ap (λ rows. rows_at (segments_in path) ++ rows) empty ∙ append-nil (rows_at (segments_in path))

is_there : (o : Option AppCall) (call : AppCall) → o ≡ Some call → IsSome o
is_there o call e = subst IsSome (sym e) refl

-- and where one has
with_call : (path : List ℕ) (call : AppCall) → IsUtf8 path → call_at path ≡ Some call
    → (r : Row) × (rows_of (segments_in path) ≡ r ∷ []) × (r.verb ≡ verb_for call)
with_call path call text e =
    let one = one_of (beside_at (segments_in path)) (verb_for call) (same path text ∙ ap verbs_for e) in
    (one.0, ap (λ rows. rows ++ beside_at (segments_in path)) (by_app path (is_there (call_at path) call e)) ∙ one.1, one.2)

alone : (path : List ℕ) (call : AppCall) → IsUtf8 path → call_at path ≡ Some call → methods_at (segments_in path) ≡ Some (name_of (verb_for call))
alone path call text e =
    let one = with_call path call text e in
    ap methods_in one.1 ∙ ap (λ v. Some (name_of v)) one.2

no_methods : (path : List ℕ) → IsUtf8 path → call_at path ≡ None → rows_at (segments_in path) ≡ [] → methods_at (segments_in path) ≡ None
no_methods path text none empty = ap methods_in (without path text none ∙ empty)

pub lists_calls : (path : List ℕ) → IsUtf8 path → ListsCalls path
lists_calls path text =
    let apart = are_apart path in
    record {
      all = refl;
      beside = same path text;
      alone = λ call e. alone path call text e;
      file = λ is. no_methods path text (apart.file_and_app is) (apart.file_and_protocol is);
      public = λ is. no_methods path text (apart.public_and_app is) (apart.public_and_protocol is);
    }

-- what these rows and this call, or refusal, have to do with each other
record Agree (actor : Actor) (verb : Verb) (rows : List Row) (found : Result StateCall Code) : Type 0 where
  others : found ≡ Err Method → IsSome (methods_in rows)
  unlisted : found ≡ Err Method → has_verb verb rows ≡ false
  refused : (actor ≡ Nobody → ⊥) → IsSome (methods_in rows) → has_verb verb rows ≡ false → found ≡ Err Method
  called : (call : StateCall) → found ≡ Ok call → has_verb verb rows ≡ true

-- the call of a row isn't refused by its method
of_row : (make : Option (List ℕ → Call)) (i : Option (List ℕ)) → call_with make i ≡ Err Method → ⊥
of_row None i e = cc
of_row (Some make) None e = cc
of_row (Some make) (Some i) e = cc

-- where no row has the method
missed : (actor : Actor) (verb : Verb) (segments : List (List ℕ)) (rows : List Row) → has_verb verb rows ≡ false
    → call_among actor verb segments Method rows ≡ Err Method
missed actor verb segments [] h = refl
missed actor verb segments (r ∷ rows) h =
    let parts = or_parts (is_verb verb r.verb) (has_verb verb rows) h in
    ap (λ b. cond b (call_with (made actor r) (id_in r.path segments)) (call_among actor verb segments Method rows)) parts.0
    ∙ missed actor verb segments rows parts.1

missed_all : (actor : Actor) (verb : Verb) (segments : List (List ℕ)) (r : Row) (rows : List Row) → has_verb verb (r ∷ rows) ≡ false
    → call_among actor verb segments NoRoute (r ∷ rows) ≡ Err Method
missed_all actor verb segments r rows h =
    let parts = or_parts (is_verb verb r.verb) (has_verb verb rows) h in
    ap (λ b. cond b (call_with (made actor r) (id_in r.path segments)) (call_among actor verb segments Method rows)) parts.0
    ∙ missed actor verb segments rows parts.1

-- where one has it
hit_here : (b rest : Bool) (make : Option (List ℕ → Call)) (i : Option (List ℕ)) (others : Result Call Code)
    → cond b (call_with make i) others ≡ Err Method → b || rest ≡ true → (others ≡ Err Method → rest ≡ true → ⊥) → ⊥
hit_here true rest make i others e h f = of_row make i e
hit_here false rest make i others e h f = f e h

hit : (actor : Actor) (verb : Verb) (segments : List (List ℕ)) (refusal : Code) (rows : List Row)
    → call_among actor verb segments refusal rows ≡ Err Method → has_verb verb rows ≡ true → ⊥
hit actor verb segments refusal [] e h = cc
hit actor verb segments refusal (r ∷ rows) e h =
    hit_here (is_verb verb r.verb) (has_verb verb rows) (made actor r) (id_in r.path segments) (call_among actor verb segments Method rows) e h
    (hit actor verb segments Method rows)

made_here : (b rest : Bool) (found others : Result Call Code) (call : Call) → cond b found others ≡ Ok call → (others ≡ Ok call → rest ≡ true)
    → b || rest ≡ true
made_here true rest found others call e f = refl
made_here false rest found others call e f = f e

made_by : (actor : Actor) (verb : Verb) (segments : List (List ℕ)) (refusal : Code) (rows : List Row) (call : Call)
    → call_among actor verb segments refusal rows ≡ Ok call → has_verb verb rows ≡ true
made_by actor verb segments refusal [] call e = cc
made_by actor verb segments refusal (r ∷ rows) call e =
    made_here (is_verb verb r.verb) (has_verb verb rows) (call_with (made actor r) (id_in r.path segments))
    (call_among actor verb segments Method rows) call e (made_by actor verb segments Method rows call)

own_refused : (found : Result Call Code) → own_call found ≡ Err Method → found ≡ Err Method
own_refused (Ok call) e = cc
own_refused (Err code) e = let same_code : code ≡ Method = cc in ap Err same_code

own_called : (found : Result Call Code) (call : StateCall) → own_call found ≡ Ok call → (own : Call) × (found ≡ Ok own)
own_called (Ok own) call e = (own, refl)
own_called (Err code) call e = cc

isnt_true : (b : Bool) → (b ≡ true → ⊥) → b ≡ false
isnt_true true f = absurd (f refl)
isnt_true false f = refl

-- the protocol's calls
of_rows : (actor : Actor) (verb : Verb) (segments : List (List ℕ)) (rows : List Row)
    → Agree actor verb rows (own_call (call_among actor verb segments NoRoute rows))
of_rows actor verb segments [] = record { others = λ e. cc; unlisted = λ e. refl; refused = λ known some miss. cc; called = λ call e. cc }
of_rows actor verb segments (r ∷ rows) =
    let found = call_among actor verb segments NoRoute (r ∷ rows) in
    record {
      others = λ e. refl;
      unlisted = λ e. isnt_true (has_verb verb (r ∷ rows)) (hit actor verb segments NoRoute (r ∷ rows) (own_refused found e));
      refused = λ known some miss. ap own_call (missed_all actor verb segments r rows miss);
      called = λ call e. let own = own_called found call e in made_by actor verb segments NoRoute (r ∷ rows) own.0 own.1;
    }

of_protocol : (actor : Actor) (verb : Verb) (segments : List (List ℕ)) → Agree actor verb (rows_at segments) (own_call (called_at actor verb segments))
of_protocol Nobody verb segments =
    record { others = λ e. cc; unlisted = λ e. cc; refused = λ known some miss. absurd (known refl); called = λ call e. cc }
of_protocol Author verb segments = of_rows Author verb segments (rows_at segments)
of_protocol (Operator place) verb segments = of_rows (Operator place) verb segments (rows_at segments)

-- no call outside the protocol's is refused by a method that it has
no_method : (actor : Actor) (call : AppCall) → app_call actor (Ok call) ≡ Err Method → ⊥
no_method Nobody call e = cc
no_method Author Events e = cc
no_method Author (Told question) e = cc
no_method Author (Fleet Compliance) e = cc
no_method Author (Fleet Vehicles) e = cc
no_method Author (FleetOf view i) e = cc
no_method Author NoOperator e = cc
no_method (Operator place) Events e = cc
no_method (Operator place) (Told Drafts) e = cc
no_method (Operator place) (Told Whoami) e = cc
no_method (Operator place) (Told Withdrawals) e = cc
no_method (Operator place) (Fleet view) e = cc
no_method (Operator place) (FleetOf view i) e = cc
no_method (Operator place) NoOperator e = cc

-- by whether the call has the method
of_test : (actor : Actor) (verb : Verb) (call : AppCall) (rows : List Row) (b : Bool) → IsSome (methods_in rows) → has_verb verb rows ≡ b
    → Agree actor verb rows (app_call actor (cond b (Ok call) (Err Method)))
of_test actor verb call rows true some has =
    record {
      others = λ e. some;
      unlisted = λ e. absurd (no_method actor call e);
      refused = λ known others miss. cc;
      called = λ c e. has;
    }
of_test Nobody verb call rows false some has =
    record { others = λ e. some; unlisted = λ e. has; refused = λ known others miss. absurd (known refl); called = λ c e. cc }
of_test Author verb call rows false some has =
    record { others = λ e. some; unlisted = λ e. has; refused = λ known others miss. refl; called = λ c e. cc }
of_test (Operator place) verb call rows false some has =
    record { others = λ e. some; unlisted = λ e. has; refused = λ known others miss. refl; called = λ c e. cc }

turned : (one two : Verb) → is_verb one two ≡ is_verb two one
turned Get Get = refl
turned Put Put = refl
turned Post Post = refl
turned Delete Delete = refl
turned Other Get = refl
turned one two = refl

or_false : (b : Bool) → b || false ≡ b
or_false true = refl
or_false false = refl

of_app : (actor : Actor) (verb : Verb) (call : AppCall) (r : Row) → r.verb ≡ verb_for call → Agree actor verb (r ∷ []) (app_call actor (by_verb verb call))
of_app actor verb call r e =
    of_test actor verb call (r ∷ []) (is_verb (verb_for call) verb) refl
    (or_false (is_verb verb r.verb) ∙ ap (is_verb verb) e ∙ turned verb (verb_for call))

by_call : (actor : Actor) (verb : Verb) (path : List ℕ) (found : Option AppCall) → IsUtf8 path → call_at path ≡ found
    → Agree actor verb (rows_of (segments_in path))
    (unwrap_or (option_map (app_call actor) (option_map (by_verb verb) found)) (own_call (called_at actor verb (segments_in path))))
by_call actor verb path None text e =
    subst (λ rows. Agree actor verb rows (own_call (called_at actor verb (segments_in path)))) (sym (without path text e))
    (of_protocol actor verb (segments_in path))
by_call actor verb path (Some call) text e =
    let one = with_call path call text e in
    subst (λ rows. Agree actor verb rows (app_call actor (by_verb verb call))) (sym one.1) (of_app actor verb call one.0 one.2)

pub refuses_unlisted : (actor : Actor) (verb : Verb) (target : List ℕ) → IsUtf8 (path_of target) → RefusesUnlisted actor verb target
refuses_unlisted actor verb target text =
    let agree = by_call actor verb (path_of target) (call_at (path_of target)) text refl in
    record {
      refused = λ e. record { others = agree.others e; unlisted = agree.unlisted e };
      unlisted = λ known is. agree.refused known is.others is.unlisted;
      called = agree.called;
    }
