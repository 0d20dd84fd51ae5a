-- The turns of one operator and a history of all other clients form one history of the machine.
use mathlib.Core.List.{IsPrefix}
use Rattle.std.proofs.Common.{◌≡◌, ◌≢◌, ℕ, zero, suc, Bool, true, false, cond, not, List, [], ◌∷◌, ◌++◌, map, set, Option, Some, None, refl, sym, ap, subst, ◌∙◌}
use Rattle.std.specs.Prelude.{◌==◌}
use Rattle.std.specs.List.{slice_get, filter, list_all, flat_map}
use Rattle.std.specs.Option.{option_to_list}
use Rattle.std.proofs.lemmas.Bool.{eqb-true}
use Rattle.std.proofs.lemmas.List.{append-nil, append_assoc, append_cancel_left, map-append}
use Rattle.std.proofs.lemmas.List.Elements.{filter_map-append}
use Rattle.mds_catalog.specs.Publication.{Publication}
use Rattle.mds_fleet.specs.Books.{Rows}
use Rattle.mds_request.specs.Configuration.{Configuration, Operator, actor_of}
use Rattle.mds_request.specs.Request.{Request}
use Rattle.mds_request.specs.declared.config.Actor.TheVariants.{Operator as OperatorAt}
use Rattle.mds_machine.specs.History.{draft_after, published_in, preceded, publications_after}
use Rattle.mds_machine.specs.Isolation.{AreKeyed}
use Rattle.mds_machine.specs.Laws.{IsAfter}
use Rattle.mds_machine.specs.Meaning.{own_step}
use Rattle.mds_machine.specs.Step.{State, Exchange, Step, Run, with_rows}
use Rattle.mds_machine.specs.Views.{Seen, asked, published, is_place, is_of, seen_in, as_publication, publications_of, view}
use Rattle.mds_machine.proofs.Histories.{now_published, after_one, after_none, goes_by_history}
use Rattle.mds_machine.proofs.Isolated.{rows_stay, whose, published_only}
use Rattle.mds_machine.specs.Fronts.{Turn, AreRising, last_front, continued, is_served}
use Rattle.mds_machine.specs.OneHistory.{exchanges_in, exchanges_of, exchanges_but_of, IsPutInto}
use Rattle.mds_machine.proofs.Moves.{with_fleets, own_moves, others_move}
use Rattle.mds_machine.proofs.Views.{both_true, last_past, followed_is}

-- ---- lists

-- the element after a common prefix is the same
same_first : {A : Type 0} (xs : List A) (x y : A) (us vs : List A) → xs ++ x ∷ us ≡ xs ++ y ∷ vs → x ≡ y
same_first xs x y us vs is = let same : x ∷ us ≡ y ∷ vs = append_cancel_left xs (x ∷ us) (y ∷ vs) is in cc

none_past : {A : Type 0} (xs us : List A) → xs ≡ xs ++ us → us ≡ []
none_past xs us is = sym (append_cancel_left xs [] us (append-nil xs ∙ is))

none_here : {A : Type 0} (p : A → Bool) (b : Bool) (x : A) (xs : List A) → cond b (x ∷ filter p xs) (filter p xs) ≡ [] → (b ≡ false) × (filter p xs ≡ [])
none_here p false x xs is = (refl, is)
none_here p true x xs is = absurd (let no : x ∷ filter p xs ≡ [] = is in cc)

nothing : {A : Type 0} (xs ys : List A) → xs ++ ys ≡ [] → xs ≡ []
nothing [] ys is = refl
nothing (x ∷ xs) ys is = absurd (let no : x ∷ (xs ++ ys) ≡ [] = is in cc)

-- two places differ
pub not_there : (a b : ℕ) (test : Bool) → (a == b) ≡ test → a ≢ b → (a == b) ≡ false
not_there a b true is apart = absurd (apart (eqb-true a b is))
not_there a b false is apart = is

-- ---- own steps

-- each reply is that of the operator's own step at the front, with the rows that the turns before it left
abbrev pub AreOwn : Configuration → Operator → Rows → List Turn → Rows → Type 0
AreOwn configuration operator rows [] after = after ≡ rows
AreOwn configuration operator rows (turn ∷ turns) after =
    let own = own_step configuration operator turn.front rows turn.request in
    (turn.reply ≡ own.0) × AreOwn configuration operator own.1 turns after

-- the first publications of a front may be seen one by one
seen_before : (seen : List Seen) (had past : List Publication) (q : Publication) (turn : Turn) (turns : List Turn) → publications_of seen ≡ had → publications_of (seen ++ published q ∷ []) ≡ had ++ q ∷ [] → turn.front ≡ had ++ q ∷ past → continued (seen ++ published q ∷ []) (turn ∷ turns) ≡ continued seen (turn ∷ turns)
seen_before seen had past q turn turns shown shown' is =
    ap (λ s. continued (s ++ asked turn.request ∷ []) turns)
    (followed_is (seen ++ published q ∷ []) (had ++ q ∷ []) turn.front past shown' (is ∙ sym (append_assoc had (q ∷ []) past))
    ∙ append_assoc seen (published q ∷ []) (map published past)
    ∙ sym (followed_is seen had turn.front (q ∷ past) shown is))

module _ (first next : State) (place : ℕ) (operator : Operator) (old final : Rows) (found : slice_get first.configuration.operators place ≡ Some operator) where
  -- what an operator sees of an exchange after others, and of a history after others
  abbrev seen_at : List Exchange → Exchange → ℕ → List Seen
  seen_at before e other = seen_in first.configuration other (draft_after first.configuration first.drafts before) e

  abbrev seen_from : List Exchange → List Exchange → ℕ → List Seen
  seen_from before more other = flat_map (λ e. seen_in first.configuration other (draft_after first.configuration first.drafts e.0) e.1) (preceded before more)

  abbrev news : List Exchange → Exchange → List Publication
  news before e = option_to_list (published_in first.configuration (draft_after first.configuration first.drafts before) e)

  abbrev is_mine : Request → Bool
  is_mine request = is_of first.configuration place request

  -- How far both histories have come, with the rest of the other history and of the turns: the states are the same
  -- except for the operator's rows.
  record Point (history : List Exchange) (turns : List Turn) : Type 0 where
    before : List Exchange
    so_far : List Exchange
    w : State
    rows : Rows
    seen : List Seen
    past : List Publication
    after : IsAfter first before w
    after_so_far : IsAfter first so_far (with_rows w place rows)
    held : slice_get w.fleets place ≡ Some old
    shown : publications_of seen ≡ w.publications
    run : Run w history next
    others : exchanges_of first.configuration place history ≡ []
    served : list_all (is_served first.configuration place) turns ≡ true
    own : AreOwn first.configuration operator rows turns final
    rise : AreRising w.publications turns
    ends : next.publications ≡ last_front w.publications turns ++ past

  -- the rest of the one history
  record Rest {history : List Exchange} {turns : List Turn} (p : Point history turns) : Type 0 where
    whole : List Exchange
    run : Run (with_rows p.w place p.rows) whole (with_rows next place final)
    mine : exchanges_of first.configuration place whole ≡ exchanges_in turns
    others : exchanges_but_of first.configuration place whole ≡ history
    unseen : (other : ℕ) → other ≢ place → seen_from p.so_far whole other ≡ seen_from p.before history other
    seen : p.seen ++ seen_from p.so_far whole place ≡ continued p.seen turns ++ map published p.past

  -- ---- a turn is inserted where its front is reached

  -- no other client sees anything of it
  is_unseen : (so_far : List Exchange) (v after : State) (e : Exchange) → IsAfter first so_far v → Step v e.request e.reply after → after.publications ≡ v.publications → actor_of first.configuration e.request.token ≡ OperatorAt place → (other : ℕ) → other ≢ place → seen_at so_far e other ≡ []
  is_unseen so_far v after e is step same whose other apart =
      let none : news so_far e ≡ [] = none_past v.publications (news so_far e) (sym same ∙ now_published first so_far v e after is step) in
      ap (λ actor. cond (is_place other actor) (asked e.request ∷ []) (map published (news so_far e))) whose
      ∙ ap (λ b. cond b (asked e.request ∷ []) (map published (news so_far e))) (not_there other place (other == place) refl apart)
      ∙ ap (map published) none

  put_in : {history : List Exchange} {turns : List Turn} (turn : Turn) (p : Point history (turn ∷ turns)) → p.w.publications ≡ turn.front → ((q : Point history turns) → Rest q) → Rest p
  put_in {history} {turns} turn p here ways =
      let request = turn.request in
      let front = turn.front in
      let own = own_step first.configuration operator front p.rows request in
      let e : Exchange = record { request = request; reply = turn.reply } in
      let served = both_true (is_served first.configuration place turn) (list_all (is_served first.configuration place) turns) p.served in
      let is = (both_true (is_mine request) (not (turn.reply.status == 503)) served.0).0 in
      let mine = whose first.configuration place request is in
      let same : p.w.configuration ≡ first.configuration = p.after.configuration in
      let stepped : Step (with_rows p.w place p.rows) request own.0 (with_rows p.w place own.1) =
      subst (λ f. Step (with_rows p.w place p.rows) request (own_step first.configuration operator f p.rows request).0 (with_rows p.w place (own_step first.configuration operator f p.rows request).1)) here
      (subst (λ c. Step (with_rows p.w place p.rows) request (own_step c operator p.w.publications p.rows request).0 (with_rows p.w place (own_step c operator p.w.publications p.rows request).1)) same
      (own_moves p.w request place operator p.rows old (ap (λ c. actor_of c request.token) same ∙ mine) (ap (λ c. slice_get c.operators place) same ∙ found) p.held)) in
      let step : Step (with_rows p.w place p.rows) request turn.reply (with_rows p.w place own.1) =
      subst (λ r. Step (with_rows p.w place p.rows) request r (with_rows p.w place own.1)) (sym p.own.0) stepped in
      let q : Point history turns = record {
        before = p.before;
        so_far = p.so_far ++ e ∷ [];
        w = p.w;
        rows = own.1;
        seen = p.seen ++ asked request ∷ [];
        past = p.past;
        after = p.after;
        after_so_far = after_one first p.so_far (with_rows p.w place p.rows) e (with_rows p.w place own.1) p.after_so_far step;
        held = p.held;
        shown = filter_map-append as_publication p.seen (asked request ∷ []) ∙ append-nil (publications_of p.seen) ∙ p.shown;
        run = p.run;
        others = p.others;
        served = served.1;
        own = p.own.1;
        rise = subst (λ f. AreRising f turns) (sym here) p.rise.1;
        ends = p.ends ∙ ap (λ f. last_front f turns ++ p.past) (sym here);
      } in
      let rest = ways q in
      record {
        whole = e ∷ rest.whole;
        run = (with_rows p.w place own.1, step, rest.run);
        mine = ap (λ b. cond b (e ∷ exchanges_of first.configuration place rest.whole) (exchanges_of first.configuration place rest.whole)) is
            ∙ ap (λ es. e ∷ es) rest.mine;
        others = ap (λ b. cond (not b) (e ∷ exchanges_but_of first.configuration place rest.whole) (exchanges_but_of first.configuration place rest.whole)) is
            ∙ rest.others;
        unseen = λ other apart.
            ap (λ s. s ++ seen_from q.so_far rest.whole other)
            (is_unseen p.so_far (with_rows p.w place p.rows) (with_rows p.w place own.1) e p.after_so_far step refl mine other apart)
            ∙ rest.unseen other apart;
        seen = ap (λ b. p.seen ++ (cond b (asked request ∷ []) (map published (news p.so_far e)) ++ seen_from q.so_far rest.whole place)) is
            ∙ sym (append_assoc p.seen (asked request ∷ []) (seen_from q.so_far rest.whole place))
            ∙ rest.seen
            ∙ ap (λ s. continued (s ++ asked request ∷ []) turns ++ map published p.past)
            (sym (followed_is p.seen front front [] (p.shown ∙ here) (sym (append-nil front)) ∙ append-nil p.seen));
      }

  -- ---- an exchange of the other history is passed

  -- after it is passed
  module _ {history : List Exchange} {turns : List Turn} (e : Exchange) (p : Point (e ∷ history) turns) where
    abbrev between : State
    between = p.run.0

    abbrev seen_then : List Seen
    seen_then = p.seen ++ map published (news p.before e)

    abbrev no_mine : (is_mine e.request ≡ false) × (exchanges_of first.configuration place history ≡ [])
    no_mine = none_here (λ e. is_mine e.request) (is_mine e.request) e history p.others

    other_step : Step (with_rows p.w place p.rows) e.request e.reply (with_rows between place p.rows)
    other_step = others_move p.w e.request place p.rows e.reply between (ap (λ c. is_of c place e.request) p.after.configuration ∙ no_mine.0) p.run.1

    grown : between.publications ≡ p.w.publications ++ news p.before e
    grown = now_published first p.before p.w e between p.after p.run.1

    -- what is published in the rest of the history
    abbrev more : List Publication
    more = publications_after between.configuration between.drafts history

    then_more : next.publications ≡ between.publications ++ more
    then_more = (goes_by_history between next history (after_one first p.before p.w e between p.after p.run.1).keyed p.run.2).publications

    all_of_it : next.publications ≡ p.w.publications ++ (news p.before e ++ more)
    all_of_it = then_more ∙ ap (λ ps. ps ++ more) grown ∙ append_assoc p.w.publications (news p.before e) more

    go_by : (past : List Publication) → AreRising between.publications turns → next.publications ≡ last_front between.publications turns ++ past → continued seen_then turns ++ map published past ≡ continued p.seen turns ++ map published p.past → ((q : Point history turns) → Rest q) → Rest p
    go_by past rise ends same ways =
        let q : Point history turns = record {
          before = p.before ++ e ∷ [];
          so_far = p.so_far ++ e ∷ [];
          w = between;
          rows = p.rows;
          seen = seen_then;
          past = past;
          after = after_one first p.before p.w e between p.after p.run.1;
          after_so_far = after_one first p.so_far (with_rows p.w place p.rows) e (with_rows between place p.rows) p.after_so_far other_step;
          held = rows_stay p.w place e.request e.reply between (ap (λ c. is_of c place e.request) p.after.configuration ∙ no_mine.0) p.run.1 ∙ p.held;
          shown = filter_map-append as_publication p.seen (map published (news p.before e))
              ∙ ap (λ ps. publications_of p.seen ++ ps) (published_only (published_in first.configuration (draft_after first.configuration first.drafts p.before) e))
              ∙ ap (λ ps. ps ++ news p.before e) p.shown
              ∙ sym grown;
          run = p.run.2;
          others = no_mine.1;
          served = p.served;
          own = p.own;
          rise = rise;
          ends = ends;
        } in
        let rest = ways q in
        let drafts : draft_after first.configuration first.drafts p.so_far ≡ draft_after first.configuration first.drafts p.before =
        λ i kind id. (sym (p.after_so_far.drafts kind id) ∙ p.after.drafts kind id) i in
        record {
          whole = e ∷ rest.whole;
          run = (with_rows between place p.rows, other_step, rest.run);
          mine = ap (λ b. cond b (e ∷ exchanges_of first.configuration place rest.whole) (exchanges_of first.configuration place rest.whole)) no_mine.0
              ∙ rest.mine;
          others = ap (λ b. cond (not b) (e ∷ exchanges_but_of first.configuration place rest.whole) (exchanges_but_of first.configuration place rest.whole)) no_mine.0
              ∙ ap (λ es. e ∷ es) rest.others;
          unseen = λ other apart.
              ap (λ held. seen_in first.configuration other held e ++ seen_from q.so_far rest.whole other) drafts
              ∙ ap (λ s. seen_at p.before e other ++ s) (rest.unseen other apart);
          seen = ap (λ held. p.seen ++ (seen_in first.configuration place held e ++ seen_from q.so_far rest.whole place)) drafts
              ∙ ap (λ b. p.seen ++ (cond b (asked e.request ∷ []) (map published (news p.before e)) ++ seen_from q.so_far rest.whole place)) no_mine.0
              ∙ sym (append_assoc p.seen (map published (news p.before e)) (seen_from q.so_far rest.whole place))
              ∙ rest.seen ∙ same;
        }

  -- where no turn is left
  go_by_last : {history : List Exchange} (e : Exchange) (p : Point (e ∷ history) []) → ((q : Point history []) → Rest q) → Rest p
  go_by_last e p ways =
      let same : news p.before e ++ more e p ≡ p.past = append_cancel_left p.w.publications (news p.before e ++ more e p) p.past (sym (all_of_it e p) ∙ p.ends) in
      go_by e p (more e p) tt (then_more e p)
      (append_assoc p.seen (map published (news p.before e)) (map published (more e p))
      ∙ ap (λ ps. p.seen ++ ps) (sym (map-append published (news p.before e) (more e p)))
      ∙ ap (λ ps. p.seen ++ map published ps) same)
      ways

  -- where the front of the first turn isn't reached yet: what is published now is the front's next publication
  module _ {history : List Exchange} {turns : List Turn} (e : Exchange) (turn : Turn) (p : Point (e ∷ history) (turn ∷ turns)) (x : Publication) (rest : List Publication) (ahead : turn.front ≡ p.w.publications ++ x ∷ rest) where
    abbrev Nearer : List Publication → Type 0
    Nearer made =
        IsPrefix (p.w.publications ++ made) turn.front
        × (continued (p.seen ++ map published made) (turn ∷ turns) ≡ continued p.seen (turn ∷ turns))

    next_is : (q : Publication) (after : List Publication) → next.publications ≡ p.w.publications ++ q ∷ after → x ≡ q
    next_is q after is =
        let past_front = last_past turn.front turns p.rise.1 in
        same_first p.w.publications x q (rest ++ (past_front.0 ++ p.past)) after
        (sym (append_assoc p.w.publications (x ∷ rest) (past_front.0 ++ p.past))
        ∙ sym (append_assoc (p.w.publications ++ x ∷ rest) past_front.0 p.past)
        ∙ ap (λ f. (f ++ past_front.0) ++ p.past) (sym ahead)
        ∙ ap (λ l. l ++ p.past) past_front.1 ∙ sym p.ends ∙ is)

    nearer : (made : Option Publication) → news p.before e ≡ option_to_list made → Nearer (option_to_list made)
    nearer None none = (
      (x ∷ rest, ap (λ ps. ps ++ x ∷ rest) (append-nil p.w.publications) ∙ sym ahead),
      ap (λ s. continued s (turn ∷ turns)) (append-nil p.seen),
    )
    nearer (Some q) one =
        let same : x ≡ q = next_is q (more e p) (all_of_it e p ∙ ap (λ ps. p.w.publications ++ (ps ++ more e p)) one) in
        let ahead_q : turn.front ≡ p.w.publications ++ q ∷ rest = ahead ∙ ap (λ x. p.w.publications ++ x ∷ rest) same in (
          (rest, append_assoc p.w.publications (q ∷ []) rest ∙ sym ahead_q),
          seen_before p.seen p.w.publications rest q turn turns p.shown
              (filter_map-append as_publication p.seen (published q ∷ []) ∙ ap (λ ps. ps ++ q ∷ []) p.shown) ahead_q,
        )

    go_by_ahead : ((q : Point history (turn ∷ turns)) → Rest q) → Rest p
    go_by_ahead ways =
        let near = nearer (published_in first.configuration (draft_after first.configuration first.drafts p.before) e) refl in
        go_by e p p.past (subst (λ ps. IsPrefix ps turn.front) (sym (grown e p)) near.0, p.rise.1) p.ends (ap (λ s. s ++ map published p.past) near.1) ways

  -- ---- all of it

  -- at the end of the other history each front is reached
  reached : {turns : List Turn} (turn : Turn) (p : Point [] (turn ∷ turns)) → p.rise.0.0 ≡ []
  reached {turns} turn p =
      let had = p.w.publications in
      let ahead = p.rise.0.0 in
      let more = last_past turn.front turns p.rise.1 in
      nothing ahead (more.0 ++ p.past)
      (none_past had (ahead ++ (more.0 ++ p.past))
      (sym (ap (λ s. s.publications) p.run) ∙ p.ends ∙ ap (λ l. l ++ p.past) (sym more.1) ∙ ap (λ f. (f ++ more.0) ++ p.past) (sym p.rise.0.1)
      ∙ append_assoc (had ++ ahead) more.0 p.past ∙ append_assoc had ahead (more.0 ++ p.past)))

  at_end : (turns : List Turn) (p : Point [] turns) → Rest p
  at_end [] p =
      record {
        whole = [];
        run = ap (λ s. with_rows s place final) p.run ∙ ap (λ r. with_rows p.w place r) p.own;
        mine = refl;
        others = refl;
        unseen = λ other apart. refl;
        seen = ap (λ ps. p.seen ++ map published ps) (sym (none_past p.w.publications p.past (sym (ap (λ s. s.publications) p.run) ∙ p.ends)));
      }
  at_end (turn ∷ turns) p =
      put_in turn p
      (sym (append-nil p.w.publications) ∙ ap (λ ps. p.w.publications ++ ps) (sym (reached turn p)) ∙ p.rise.0.1)
      (at_end turns)

  -- a front is reached, or isn't yet
  by_rest : {history : List Exchange} {turns : List Turn} (e : Exchange) (turn : Turn) (p : Point (e ∷ history) (turn ∷ turns)) → ((q : Point (e ∷ history) turns) → Rest q) → ((q : Point history (turn ∷ turns)) → Rest q) → (rest : List Publication) → p.w.publications ++ rest ≡ turn.front → Rest p
  by_rest e turn p now later [] is = put_in turn p (sym (append-nil p.w.publications) ∙ is) now
  by_rest e turn p now later (x ∷ rest) is = go_by_ahead e turn p x rest (sym is) later

  at_one : (e : Exchange) (history : List Exchange) → ((turns : List Turn) (q : Point history turns) → Rest q) → (turns : List Turn) (p : Point (e ∷ history) turns) → Rest p
  at_one e history ways [] p = go_by_last e p (ways [])
  at_one e history ways (turn ∷ turns) p =
      by_rest e turn p (at_one e history ways turns) (ways (turn ∷ turns)) p.rise.0.0 p.rise.0.1

  rest_of : (history : List Exchange) (turns : List Turn) (p : Point history turns) → Rest p
  rest_of [] turns p = at_end turns p
  rest_of (e ∷ history) turns p = at_one e history (rest_of history) turns p

-- setting the rows that are there changes nothing
set_as_is : (fleets : List Rows) (place : ℕ) (rows : Rows) → slice_get fleets place ≡ Some rows → set fleets place rows ≡ fleets
set_as_is [] place rows is = refl
set_as_is (r ∷ fleets) zero rows is = let same : rows ≡ r = cc in ap (λ r. r ∷ fleets) same
set_as_is (r ∷ fleets) (suc place) rows is = ap (λ fs. r ∷ fs) (set_as_is fleets place rows is)

-- One operator's requests, each answered by its own step at a front, can be inserted into any history of all other
-- clients whose publications have the last front as a prefix, from any state and any view that shows its publications.
abbrev pub ArePutIn : Type 0
ArePutIn =
    (w next : State) (history : List Exchange) (place : ℕ) (operator : Operator) (rows final : Rows) (seen : List Seen)
    (turns : List Turn) (past : List Publication)
    → AreKeyed w.drafts → Run w history next → slice_get w.configuration.operators place ≡ Some operator
    → slice_get w.fleets place ≡ Some rows → publications_of seen ≡ w.publications
    → exchanges_of w.configuration place history ≡ []
    → list_all (is_served w.configuration place) turns ≡ true
    → AreOwn w.configuration operator rows turns final
    → AreRising w.publications turns
    → next.publications ≡ last_front w.publications turns ++ past
    → (whole : List Exchange) × Run w whole (with_rows next place final)
    × IsPutInto w place (exchanges_in turns) history whole
    × (seen ++ view w.configuration w.drafts whole place ≡ continued seen turns ++ map published past)

pub are_put_in : ArePutIn
are_put_in w next history place operator rows final seen turns past keyed run found held shown others served own rise ends =
    let start : IsAfter w [] (with_rows w place rows) = record { configuration = refl; publications = sym (append-nil w.publications); drafts = λ kind id. refl; keyed = keyed } in
    let rest = rest_of w next place operator rows final found history turns
    (record { before = []; so_far = []; w = w; rows = rows; seen = seen; past = past; after = after_none w keyed; after_so_far = start; held = held; shown = shown; run = run; others = others; served = served; own = own; rise = rise; ends = ends }) in
    let whole = rest.whole in
    let after = with_rows next place final in
    let runs : Run w whole after = subst (λ v. Run v whole after) (ap (with_fleets w) (set_as_is w.fleets place rows held)) rest.run in (
      whole,
      runs,
      record {
        of_operator = rest.mine;
        of_others = rest.others;
        publications = append_cancel_left w.publications _ _
            (sym (goes_by_history w after whole keyed runs).publications ∙ (goes_by_history w next history keyed run).publications);
        views = rest.unseen;
      },
      rest.seen,
    )
