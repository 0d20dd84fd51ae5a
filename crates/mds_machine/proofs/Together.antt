-- All desks and the author together, and one operator at two servers.
use mathlib.Core.List.{IsPrefix}
use Rattle.std.proofs.Common.{◌≡◌, ◌≢◌, ℕ, zero, suc, ◌<◌, ◌≤◌, Bool, true, false, cond, not, List, [], ◌∷◌, ◌++◌, map, set, length, drop, Option, Some, None, refl, sym, ap, subst, ◌∙◌, arith}
use Rattle.std.specs.Prelude.{◌==◌}
use Rattle.std.specs.List.{slice_get, filter, list_all}
use Rattle.std.specs.FinMap.{empty, get-empty}
use Rattle.std.specs.Option.{option_map}
use Rattle.std.proofs.lemmas.Bool.{eqb-true, eqb-false}
use Rattle.std.proofs.lemmas.List.{append-nil, append_assoc}
use Rattle.std.proofs.lemmas.List.Elements.{filter-append}
use Rattle.std.proofs.lemmas.Option.{slice_get_within, slice_get-map}
use Rattle.mds_catalog.specs.Publication.{Publication}
use Rattle.mds_fleet.specs.Books.{Rows}
use Rattle.mds_request.specs.Configuration.{Configuration, Operator, actor_of}
use Rattle.mds_request.specs.Request.{Request}
use Rattle.mds_request.specs.Reply.{Reply}
use Rattle.mds_request.specs.declared.code.Code.TheVariants.{NoMemory}
use Rattle.mds_request.specs.declared.config.Actor.{Actor}
use Rattle.mds_machine.specs.History.{publications_after}
use Rattle.mds_machine.specs.Isolation.{AreKeyed, HasMemory}
use Rattle.mds_machine.specs.Meaning.{AreRows, events_of, own_step}
use Rattle.mds_machine.specs.Step.{State, Exchange, Run, new_state, with_rows}
use Rattle.mds_machine.specs.Views.{Seen, asked, published, is_place, is_of, publications_of, requests_of}
use Rattle.mds_machine.proofs.Histories.{goes_by_history, begins_keyed}
use Rattle.mds_machine.proofs.Isolated.{whose, is_meant_throughout}
use Rattle.mds_machine.proofs.Meaning.{has_one_answer, same_rows}
use Rattle.mds_machine.proofs.Steps.{set_there, set_here}
use Rattle.mds_machine.proofs.TwoWorlds.{is_isolated_throughout}
use Rattle.mds_machine.specs.Fronts.{Turn, last_front, followed, continued, AreAnswers, is_served, served_in, replies_in}
use Rattle.mds_machine.specs.DeskLaws.{TurnsArePutIn, IsOneHistory, DesksAreIsolated}
use Rattle.mds_machine.specs.OneHistory.{exchanges_in, exchanges_of, exchanges_but_of, IsPutInto, AreItsTurns, is_operator, exchanges_of_none, HasServed, HasPart}
use Rattle.mds_machine.specs.Room.{is_the_author, is_authors, authors_in}
use Rattle.mds_machine.proofs.PutIn.{AreOwn, not_there, are_put_in}
use Rattle.mds_machine.proofs.Room.{author_is, all_left, room_is_history}
use Rattle.mds_machine.proofs.Runs.{own_of, rise_of, answers_of, served_are_turns}
use Rattle.mds_machine.proofs.Served.{not_unavailable}
use Rattle.mds_machine.proofs.Views.{prefix_on, both_true, then}

-- ---- tests that no element passes both

module _ {A : Type 0} (p q : A → Bool) (apart : (x : A) → q x ≡ true → p x ≡ false) where
  kept_by : (x : A) (xs : List A) (b : Bool) → q x ≡ b → filter p (x ∷ xs) ≡ cond (not b) (cond (p x) (x ∷ filter p xs) (filter p xs)) (filter p xs)
  kept_by x xs true is = ap (λ b. cond b (x ∷ filter p xs) (filter p xs)) (apart x is)
  kept_by x xs false is = refl

  -- what passes one test stays where what passes the other is left out
  kept : (xs : List A) → filter p (filter (λ x. not (q x)) xs) ≡ filter p xs
  kept [] = refl
  kept (x ∷ xs) = by (q x) refl (kept xs)
    where
      by : (b : Bool) → q x ≡ b → filter p (filter (λ x. not (q x)) xs) ≡ filter p xs → filter p (cond (not b) (x ∷ filter (λ x. not (q x)) xs) (filter (λ x. not (q x)) xs)) ≡ filter p (x ∷ xs)
      by true is more = more ∙ sym (kept_by x xs true is)
      by false is more = ap (λ ys. cond (p x) (x ∷ ys) ys) more

  -- nothing passes both
  none_left : (xs : List A) → filter p (filter q xs) ≡ []
  none_left [] = refl
  none_left (x ∷ xs) = by (q x) refl (none_left xs)
    where
      by : (b : Bool) → q x ≡ b → filter p (filter q xs) ≡ [] → filter p (cond b (x ∷ filter q xs) (filter q xs)) ≡ []
      by true is more = ap (λ b. cond b (x ∷ filter p (filter q xs)) (filter p (filter q xs))) (apart x is) ∙ more
      by false is more = more

-- what passes one test passes the other too
all_kept : {A : Type 0} (p q : A → Bool) → ((x : A) → q x ≡ true → p x ≡ true) → (xs : List A) → filter p (filter q xs) ≡ filter q xs
all_kept p q passes [] = refl
all_kept p q passes (x ∷ xs) = by (q x) refl (all_kept p q passes xs)
  where
    by : (b : Bool) → q x ≡ b → filter p (filter q xs) ≡ filter q xs → filter p (cond b (x ∷ filter q xs) (filter q xs)) ≡ cond b (x ∷ filter q xs) (filter q xs)
    by true is more = ap (λ b. cond b (x ∷ filter p (filter q xs)) (filter p (filter q xs))) (passes x is) ∙ ap (λ ys. x ∷ ys) more
    by false is more = more

-- ---- memory

-- memory suffices for an operator in a history if it does for its own exchanges
memory_by_own : (configuration : Configuration) (place : ℕ) (history : List Exchange) → HasMemory configuration place (exchanges_of configuration place history) → HasMemory configuration place history
memory_by_own configuration place history has before e stands mine =
    let p : Exchange → Bool = λ e. is_of configuration place e.request in
    has (filter p before) e (
      filter p stands.0,
      ap (filter p) stands.1 ∙ filter-append p before (e ∷ stands.0)
          ∙ ap (λ b. filter p before ++ cond b (e ∷ filter p stands.0) (filter p stands.0)) mine,
    ) mine

abbrev exchange_of : Turn → Exchange
exchange_of turn = record { request = turn.request; reply = turn.reply }

-- memory suffices for turns that are served
memory_in : (configuration : Configuration) (place : ℕ) (turns : List Turn) → list_all (is_served configuration place) turns ≡ true → HasMemory configuration place (exchanges_in turns)
memory_in configuration place [] served [] e stands mine = absurd (let no : [] ≡ e ∷ stands.0 = stands.1 in cc)
memory_in configuration place [] served (x ∷ before) e stands mine = absurd (let no : [] ≡ x ∷ (before ++ e ∷ stands.0) = stands.1 in cc)
memory_in configuration place (turn ∷ turns) served [] e stands mine =
    let same : exchange_of turn ∷ exchanges_in turns ≡ e ∷ stands.0 = stands.1 in
    let this : exchange_of turn ≡ e = cc in
    let parts = both_true (is_served configuration place turn) (list_all (is_served configuration place) turns) served in
    let other = (both_true (is_of configuration place turn.request) (not (turn.reply.status == 503)) parts.0).1 in
    λ out. not_unavailable turn.reply NoMemory refl other (ap (λ e. e.reply) this ∙ out)
memory_in configuration place (turn ∷ turns) served (x ∷ before) e stands mine =
    let same : exchange_of turn ∷ exchanges_in turns ≡ x ∷ (before ++ e ∷ stands.0) = stands.1 in
    let rest : exchanges_in turns ≡ before ++ e ∷ stands.0 = cc in
    let parts = both_true (is_served configuration place turn) (list_all (is_served configuration place) turns) served in
    memory_in configuration place turns parts.1 before e (stands.0, rest) mine

memory_of : (configuration : Configuration) (place : ℕ) (turns : List Turn) (whole : List Exchange) → list_all (is_served configuration place) turns ≡ true → exchanges_of configuration place whole ≡ exchanges_in turns → HasMemory configuration place whole
memory_of configuration place turns whole served own =
    memory_by_own configuration place whole
    (subst (HasMemory configuration place) (sym own) (memory_in configuration place turns served))

-- ---- one operator

-- the rows that own steps leave follow from them
own_left : (configuration : Configuration) (operator : Operator) (rows : Rows) (turns : List Turn) (after other : Rows) → AreOwn configuration operator rows turns after → AreOwn configuration operator rows turns other → after ≡ other
own_left configuration operator rows [] after other own apart = own ∙ sym apart
own_left configuration operator rows (turn ∷ turns) after other own apart =
    own_left configuration operator (own_step configuration operator turn.front rows turn.request).1 turns after other own.1 apart.1

-- the rows that the turns of a desk leave follow from them
rows_left : (configuration : Configuration) (place : ℕ) (operator : Operator) (turns : List Turn) (rows other : Rows) → AreItsTurns configuration place operator turns rows → AreItsTurns configuration place operator turns other → rows ≡ other
rows_left configuration place operator turns rows other its apart =
    let served = served_in configuration place turns in
    let are = served_are_turns configuration place operator [] empty rows turns its in
    let are_apart = served_are_turns configuration place operator [] empty other turns apart in
    own_left configuration operator empty served rows other
    (own_of configuration place operator [] empty served rows are.0 are.1)
    (own_of configuration place operator [] empty served other are_apart.0 are_apart.1)

-- a new machine has no rows of an operator
none_held : (configuration : Configuration) (place : ℕ) (operator : Operator) → slice_get configuration.operators place ≡ Some operator → slice_get (new_state configuration).fleets place ≡ Some empty
none_held configuration place operator found =
    slice_get-map (λ operator. empty) configuration.operators place ∙ ap (λ found. option_map (λ operator. empty) found) found

pub turns_are_put_in : TurnsArePutIn
turns_are_put_in configuration next history place operator turns rows run found others its begins =
    let new = new_state configuration in
    let keyed : AreKeyed new.drafts = begins_keyed configuration in
    let held = none_held configuration place operator found in
    let served = served_in configuration place turns in
    let are = served_are_turns configuration place operator [] empty rows turns its in
    let past = prefix_on (last_front [] served) (last_front [] turns) (publications_after configuration new.drafts history) are.2 begins in
    let put = are_put_in new next history place operator empty rows [] served past.0 keyed run found held refl others are.1
    (own_of configuration place operator [] empty served rows are.0 are.1)
    (rise_of configuration place operator [] empty served rows are.0)
    ((goes_by_history new next history keyed run).publications ∙ sym past.1) in (
      put.0,
      put.1,
      put.2,
      record {
        own = put.2.of_operator;
        memory = memory_of configuration place served put.0 are.1 put.2.of_operator;
        seen = (past.0, put.2.publications ∙ sym past.1, put.3);
      },
    )

-- ---- all operators

module _ (configuration : Configuration) where
  others_kept : (place other : ℕ) → other ≢ place → (whole history : List Exchange) → exchanges_but_of configuration place whole ≡ history → exchanges_of configuration other whole ≡ exchanges_of configuration other history
  others_kept place other apart whole history is =
      sym (kept (λ e. is_of configuration other e.request) (λ e. is_of configuration place e.request)
      (λ e mine. ap (is_place other) (whose configuration place e.request mine) ∙ not_there other place (other == place) refl apart) whole)
      ∙ ap (exchanges_of configuration other) is

  none_kept : (place : ℕ) (whole history : List Exchange) → exchanges_but_of configuration place whole ≡ history → exchanges_of_none configuration whole ≡ exchanges_of_none configuration history
  none_kept place whole history is =
      sym (kept (λ e. not (is_operator (actor_of configuration e.request.token))) (λ e. is_of configuration place e.request)
      (λ e mine. ap (λ actor. not (is_operator actor)) (whose configuration place e.request mine)) whole)
      ∙ ap (exchanges_of_none configuration) is

  -- the author is at no place, and is no operator
  no_place : (place : ℕ) (actor : Actor) → is_the_author actor ≡ true → is_place place actor ≡ false
  no_place place actor is = ap (is_place place) (author_is actor is)

  none_of : (place : ℕ) (history : List Exchange) → exchanges_of configuration place (authors_in configuration history) ≡ []
  none_of place history =
      none_left (λ e. is_of configuration place e.request) (λ e. is_authors configuration e.request)
      (λ e authors. no_place place (actor_of configuration e.request.token) authors) history

  authors_are_none : (history : List Exchange) → exchanges_of_none configuration (authors_in configuration history) ≡ authors_in configuration history
  authors_are_none history =
      all_kept (λ e. not (is_operator (actor_of configuration e.request.token))) (λ e. is_authors configuration e.request)
      (λ e authors. ap (λ actor. not (is_operator actor)) (author_is (actor_of configuration e.request.token) authors)) history

  module _ (history : List Exchange) (publications : List Publication) (turns : ℕ → List Turn) (has : HasServed configuration history publications turns) where
    abbrev new : State
    new = new_state configuration

    abbrev shown : List Exchange → List Publication
    shown whole = publications_after configuration new.drafts whole

    abbrev served : ℕ → List Turn
    served place = served_in configuration place (turns place)

    -- the one history with the first `n` operators in it
    record With (n : ℕ) : Type 0 where
      whole : List Exchange
      after : State
      runs : Run new whole after
      none : exchanges_of_none configuration whole ≡ authors_in configuration history
      all_shown : shown whole ≡ publications
      inside : (place : ℕ) (operator : Operator) → place < n → slice_get configuration.operators place ≡ Some operator → HasPart configuration place (served place) whole
      outside : (place : ℕ) → n ≤ place → exchanges_of configuration place whole ≡ []
      drafts : after.drafts ≡ has.drafts
      rows_inside : (place : ℕ) (operator : Operator) (rows : Rows) → place < n → slice_get configuration.operators place ≡ Some operator → AreItsTurns configuration place operator (turns place) rows → slice_get after.fleets place ≡ Some rows
      rows_outside : (place : ℕ) → n ≤ place → slice_get after.fleets place ≡ slice_get new.fleets place

    start : With 0
    start =
        let run = room_is_history configuration history has.drafts publications has.room in
        record {
          whole = authors_in configuration history;
          after = record { configuration = configuration; publications = publications; drafts = has.drafts; fleets = new.fleets };
          runs = run;
          none = authors_are_none history;
          all_shown = sym (goes_by_history new _ (authors_in configuration history) (begins_keyed configuration) run).publications;
          inside = λ place operator below found. absurd (omega arith);
          outside = λ place above. none_of place history;
          drafts = refl;
          rows_inside = λ place operator rows below found its. absurd (omega arith);
          rows_outside = λ place above. refl;
        }

    -- a part stays what it is when another operator's exchanges are inserted
    part_kept : (n place : ℕ) (operator : Operator) → slice_get configuration.operators place ≡ Some operator → (own before whole : List Exchange) → place ≢ n → IsPutInto new n own before whole → HasPart configuration place (served place) before → HasPart configuration place (served place) whole
    part_kept n place operator found own before whole apart put part =
        let same = others_kept n place apart whole before put.of_others ∙ part.own in
        let desk = has.desks place operator found in
        record {
          own = same;
          memory = memory_of configuration place (served place) whole (served_are_turns configuration place operator [] empty desk.0 (turns place) desk.1).1 same;
          seen = (part.seen.0, put.publications ∙ part.seen.1, put.views place apart ∙ part.seen.2);
        }

    one_more : (n : ℕ) (operator : Operator) → slice_get configuration.operators n ≡ Some operator → With n → With (suc n)
    one_more n operator found with =
        let desk = has.desks n operator found in
        let begins : IsPrefix (last_front [] (turns n)) (shown with.whole) =
        subst (IsPrefix (last_front [] (turns n))) (sym with.all_shown) desk.2 in
        let put_in = turns_are_put_in configuration with.after with.whole n operator (turns n) desk.0 with.runs found (with.outside n (omega arith)) desk.1 begins in
        let whole = put_in.0 in
        let put = put_in.2 in
        record {
          whole = whole;
          after = with_rows with.after n desk.0;
          runs = put_in.1;
          none = none_kept n whole with.whole put.of_others ∙ with.none;
          all_shown = put.publications ∙ with.all_shown;
          inside = λ place one below there. inside_by whole place one there (place == n) refl
              (λ same. put_in.3)
              (λ apart. part_kept n place one there _ with.whole whole apart put (with.inside place one (omega arith) there));
          outside = λ place above. others_kept n place (λ is. omega arith) whole with.whole put.of_others ∙ with.outside place (omega arith);
          drafts = with.drafts;
          rows_inside = λ place one rows below there its. rows_by place one rows there its (place == n) refl
              (λ apart. with.rows_inside place one rows (omega arith) there its);
          rows_outside = λ place above. set_there with.after.fleets n place desk.0 (λ is. omega arith) ∙ with.rows_outside place (omega arith);
        }
      where
        inside_by : (whole : List Exchange) (place : ℕ) (one : Operator) → slice_get configuration.operators place ≡ Some one → (b : Bool) → (place == n) ≡ b → (place ≡ n → HasPart configuration n (served n) whole) → (place ≢ n → HasPart configuration place (served place) whole) → HasPart configuration place (served place) whole
        inside_by whole place one there true is this that = let same = eqb-true place n is in subst (λ p. HasPart configuration p (served p) whole) (sym same) (this same)
        inside_by whole place one there false is this that = that (eqb-false place n is)

        rows_here : (one : Operator) (rows : Rows) → slice_get configuration.operators n ≡ Some one → AreItsTurns configuration n one (turns n) rows → slice_get (set with.after.fleets n (has.desks n operator found).0) n ≡ Some rows
        rows_here one rows there its =
            let both : Some operator ≡ Some one = sym found ∙ there in
            let same : one ≡ operator = cc in
            set_here with.after.fleets n empty (has.desks n operator found).0 (with.rows_outside n (omega arith) ∙ none_held configuration n operator found)
            ∙ ap Some (rows_left configuration n operator (turns n) (has.desks n operator found).0 rows (has.desks n operator found).1
            (subst (λ o. AreItsTurns configuration n o (turns n) rows) same its))

        rows_by : (place : ℕ) (one : Operator) (rows : Rows) → slice_get configuration.operators place ≡ Some one → AreItsTurns configuration place one (turns place) rows → (b : Bool) → (place == n) ≡ b → (place ≢ n → slice_get with.after.fleets place ≡ Some rows) → slice_get (set with.after.fleets n (has.desks n operator found).0) place ≡ Some rows
        rows_by place one rows there its true is that =
            let same = eqb-true place n is in
            subst (λ p. slice_get configuration.operators p ≡ Some one → AreItsTurns configuration p one (turns p) rows → slice_get (set with.after.fleets n (has.desks n operator found).0) p ≡ Some rows) (sym same) (rows_here one rows) there its
        rows_by place one rows there its false is that =
            let apart = eqb-false place n is in set_there with.after.fleets n place (has.desks n operator found).0 apart ∙ that apart

    -- there is no such operator
    no_more : (n : ℕ) → slice_get configuration.operators n ≡ None → With n → With (suc n)
    no_more n found with =
        record {
          whole = with.whole;
          after = with.after;
          runs = with.runs;
          none = with.none;
          all_shown = with.all_shown;
          inside = λ place one below there. with.inside place one (not_here place one there below) there;
          outside = λ place above. with.outside place (omega arith);
          drafts = with.drafts;
          rows_inside = λ place one rows below there its. with.rows_inside place one rows (not_here place one there below) there its;
          rows_outside = λ place above. with.rows_outside place (omega arith);
        }
      where
        not_here : (place : ℕ) (one : Operator) → slice_get configuration.operators place ≡ Some one → place < suc n → place < n
        not_here place one there below =
            let apart : place ≢ n = λ same. let no : None ≡ Some one = sym found ∙ ap (λ p. slice_get configuration.operators p) (sym same) ∙ there in cc in
            omega arith

    with_all : (n : ℕ) → With n
    with_all zero = start
    with_all (suc n) = by (slice_get configuration.operators n) refl (with_all n)
      where
        by : (found : Option Operator) → slice_get configuration.operators n ≡ found → With n → With (suc n)
        by None is with = no_more n is with
        by (Some operator) is with = one_more n operator is with

pub is_one_history : IsOneHistory
is_one_history configuration history publications turns has =
    let with = with_all configuration history publications turns has (length configuration.operators) in (
      with.whole,
      with.after,
      record {
        run = with.runs;
        meant = is_meant_throughout (new_state configuration) with.after with.whole (begins_keyed configuration) with.runs;
        isolated = is_isolated_throughout (new_state configuration) with.after with.whole (begins_keyed configuration) with.runs;
        author = with.none;
        shown = with.all_shown;
        parts = λ place operator found. with.inside place operator (slice_get_within configuration.operators place operator found) found;
        drafts = λ drafts room. with.drafts
            ∙ ap (λ held. held.0) (all_left configuration history ((new_state configuration).drafts, []) (has.drafts, publications) (drafts, publications) has.room room);
        rows = λ place operator rows found its. with.rows_inside place operator rows (slice_get_within configuration.operators place operator found) found its;
      },
    )

-- ---- two servers

module _ (configuration : Configuration) (operator : Operator) where
  -- the answer after a view, and the answers to the requests in the rest of a view
  abbrev reply_after : List Seen → Request → Reply
  reply_after seen request = (has_one_answer configuration operator seen request).0.0

  abbrev replies_after : List Seen → List Seen → List Reply
  replies_after seen [] = []
  replies_after seen (asked request ∷ more) = reply_after seen request ∷ replies_after (seen ++ asked request ∷ []) more
  replies_after seen (published p ∷ more) = replies_after (seen ++ published p ∷ []) more

  past_published : (seen : List Seen) (ps : List Publication) (more : List Seen) → replies_after seen (map published ps ++ more) ≡ replies_after (seen ++ map published ps) more
  past_published seen [] more = ap (λ s. replies_after s more) (sym (append-nil seen))
  past_published seen (p ∷ ps) more =
      past_published (seen ++ published p ∷ []) ps more
      ∙ ap (λ s. replies_after s more) (append_assoc seen (published p ∷ []) (map published ps))

  -- the further publications of a front
  abbrev news_of : List Seen → List Publication → List Publication
  news_of seen front = drop (length (publications_of seen)) front

  -- what turns add to a view
  abbrev added : List Seen → List Turn → List Seen
  added seen [] = []
  added seen (turn ∷ turns) = map published (news_of seen turn.front) ++ asked turn.request ∷ added (then seen turn) turns

  continued_is : (seen : List Seen) (turns : List Turn) → continued seen turns ≡ seen ++ added seen turns
  continued_is seen [] = sym (append-nil seen)
  continued_is seen (turn ∷ turns) =
      continued_is (then seen turn) turns
      ∙ append_assoc (followed seen turn.front) (asked turn.request ∷ []) (added (then seen turn) turns)
      ∙ append_assoc seen (map published (news_of seen turn.front)) (asked turn.request ∷ added (then seen turn) turns)

  -- the replies of turns that are answers are those of the continued view
  replies_by_view : (seen : List Seen) (turns : List Turn) → AreAnswers configuration operator seen turns → replies_in turns ≡ replies_after seen (added seen turns)
  replies_by_view seen [] are = refl
  replies_by_view seen (turn ∷ turns) are =
      let now = followed seen turn.front in
      let one = has_one_answer configuration operator now turn.request in
      ap (λ r. r ∷ replies_in turns) (one.1 turn.reply one.0.0 are.0 one.0.1)
      ∙ ap (λ rs. reply_after now turn.request ∷ rs) (replies_by_view (then seen turn) turns are.1)
      ∙ sym (past_published seen (news_of seen turn.front) (asked turn.request ∷ added (then seen turn) turns))

  -- served turns from a new desk have the replies and leave the rows that the continued view defines
  by_view : (place : ℕ) (turns : List Turn) (rows : Rows) → AreItsTurns configuration place operator turns rows → (replies_in (served_in configuration place turns) ≡ replies_after [] (continued [] (served_in configuration place turns))) × AreRows configuration operator (requests_of (continued [] (served_in configuration place turns))) rows
  by_view place turns rows its =
      let served = served_in configuration place turns in
      let are = served_are_turns configuration place operator [] empty rows turns its in
      let answers = answers_of configuration operator [] empty served rows (λ device. get-empty _ device)
      (rise_of configuration place operator [] empty served rows are.0)
      (own_of configuration place operator [] empty served rows are.0 are.1) in
      (replies_by_view [] served answers.0 ∙ ap (replies_after []) (sym (continued_is [] served)), answers.1)

pub desks_are_isolated : DesksAreIsolated
desks_are_isolated configuration place operator turns others rows other_rows its other_its same =
    let one = by_view configuration operator place turns rows its in
    let other = by_view configuration operator place others other_rows other_its in (
      one.0 ∙ ap (replies_after configuration operator []) same ∙ sym other.0,
      same_rows operator.limit (events_of configuration (requests_of (continued [] (served_in configuration place turns)))) rows other_rows one.1
          (subst (λ s. AreRows configuration operator (requests_of s) other_rows) (sym same) other.1),
    )
