-- The records of a desk's turns grow with them.
use mathlib.Core.List.{IsPrefix}
use Rattle.std.proofs.Common.{◌≡◌, ◌==◌, ◌≤◌, ℕ, Bool, true, false, cond, not, List, [], ◌∷◌, ◌++◌, length, map, filter, Option, Some, None, MatchOption, refl, sym, ap, subst, ◌∙◌, append_assoc, length-append, arith}
use Rattle.std.specs.Prelude.{◌&&◌}
use Rattle.std.specs.List.{list_all}
use Rattle.std.proofs.Math.Logic.{∥∥₁_map, ∥∥₁_map₂}
use Rattle.std.proofs.lemmas.List.{append-nil, map-append}
use Rattle.std.proofs.lemmas.List.Elements.{filter-append}
use Rattle.journal_commit.specs.Clients.{GoesOnBy, Own, of_client}
use Rattle.journal_commit.specs.Durable.{chosen}
use Rattle.journal_commit.proofs.Fronts.{prefix_whole}
use Rattle.journal_laws.specs.Persisted.{is_kept, kept, may_change, requests_in}
use Rattle.mds_desk.specs.Desk.{DeskState}
use Rattle.mds_machine.specs.Step.{Exchange}
use Rattle.mds_request.specs.Call.{call_of}
use Rattle.mds_request.specs.Configuration.{Configuration}
use Rattle.mds_request.specs.Request.{Request}
use Rattle.mds_request.specs.Reply.{Reply}
use Rattle.server_state.specs.TurnItem.{TurnItem, Opened, OpenedRoom, Answered, Ran}
use Rattle.server_state.specs.TurnList.{AreTurnsOf, items_of, opened_as}
use Rattle.server_durable.specs.Logged.{AreLogged, OwnsTurns, ShowsTurns, exchanges_in, logged_in}
use Rattle.server_durable.specs.Many.{AreRecordsOf, accepted, exchanges}
use Rattle.server_durable.specs.Owners.{appended_by}
use Rattle.server_durable.specs.Records.{IsRecordOf, IsReserved}
use Rattle.server_durable.specs.declared.records.CallReservation.{CallReservation}
use Rattle.server_durable.specs.declared.records.CallReservation.TheVariants.{Reads, Holds}
use Rattle.server_durable.proofs.Accepted.{chosen_are_theirs}
use Rattle.server_durable.proofs.Kept.{none_kept}

the_same : {X : Type 0} (x y : X) → Some x ≡ Some y → x ≡ y
the_same x y is = cc

-- what is true of a value is true of the one that an option of it has
pub of_some : {T : Type 0} (t : T) (at : T → ℕ) (place : ℕ) → at t ≡ place → (x : T) → Some t ≡ Some x → at x ≡ place
of_some t at place is x same = sym (ap at (the_same t x same)) ∙ is

none_of : {A : Type 0} (items : List A) → length items ≡ 0 → items ≡ []
none_of [] none = refl
none_of (item ∷ items) none = absurd (omega (arith, none))

-- two lists that begin each other are the same
pub one_list : {A : Type 0} (xs ys : List A) → IsPrefix xs ys → IsPrefix ys xs → xs ≡ ys
one_list xs ys p q = prefix_whole xs ys p (let more : length ys ≤ length xs = omega (arith, sym (ap length q.1) ∙ length-append ys q.0) in more)

pub exchanges_more : (items more : List TurnItem) → exchanges_in (items ++ more) ≡ exchanges_in items ++ exchanges_in more
exchanges_more [] more = refl
exchanges_more (Opened known rows ∷ items) more = exchanges_more items more
exchanges_more (OpenedRoom drafts publications ∷ items) more = exchanges_more items more
exchanges_more (Answered request reply ∷ items) more =
    ap (λ (history : List Exchange). record { request = request; reply = reply } ∷ history) (exchanges_more items more)
exchanges_more (Ran requests replies ∷ items) more =
    ap (λ (history : List Exchange). exchanges requests replies ++ history) (exchanges_more items more)
    ∙ sym (append_assoc (exchanges requests replies) (exchanges_in items) (exchanges_in more))

module _ (configuration : Configuration) where
  records_more : (requests more : List Request) (texts others : List (List ℕ)) → AreRecordsOf configuration requests texts
      → AreRecordsOf configuration more others → AreRecordsOf configuration (requests ++ more) (texts ++ others)
  records_more [] more [] others are then = then
  records_more [] more (text ∷ texts) others are then = absurd are
  records_more (request ∷ requests) more [] others are then = absurd are
  records_more (request ∷ requests) more (text ∷ texts) others are then = (are.0, records_more requests more texts others are.1 then)

  logged_more : (items more : List TurnItem) → logged_in configuration (items ++ more) ≡ logged_in configuration items ++ logged_in configuration more
  logged_more items more =
      let first = exchanges_in items in
      let then = exchanges_in more in
      ap (λ (history : List Exchange). requests_in (kept configuration history)) (exchanges_more items more)
      ∙ ap (λ (history : List Exchange). requests_in history) (filter-append (is_kept configuration) first then)
      ∙ map-append (λ (e : Exchange). e.request) (kept configuration first) (kept configuration then)

  -- more turns, with their records
  logged_on : (items more all : List TurnItem) (texts others : List (List ℕ)) → AreLogged configuration items texts
      → AreLogged configuration more others → all ≡ items ++ more → AreLogged configuration all (texts ++ others)
  logged_on items more all texts others are then is =
      subst (λ (xs : List TurnItem). AreLogged configuration xs (texts ++ others)) (sym is)
      (subst (λ (rs : List Request). AreRecordsOf configuration rs (texts ++ others)) (sym (logged_more items more))
      (records_more (logged_in configuration items) (logged_in configuration more) texts others are then))

  -- no turn yet
  opened_logged : (place : ℕ) (items : List TurnItem) (d : DeskState) → AreTurnsOf configuration place items d → length items ≡ 1
      → AreLogged configuration items []
  opened_logged place items d are alone =
      let more : List TurnItem = items_of are.events in
      let none : more ≡ [] = none_of more (omega (arith, alone, ap length are.items_are, length-append (opened_as are.first) more)) in
      let one : items ≡ opened_as are.first = are.items_are ∙ ap (λ (xs : List TurnItem). opened_as are.first ++ xs) none in
      subst (λ (xs : List TurnItem). AreLogged configuration xs []) (sym one) tt

  by_flag : (e : Exchange) (text : List ℕ) (b : Bool) → IsRecordOf configuration e.request text
      → AreRecordsOf configuration (requests_in (cond b (e ∷ []) [])) (cond b (text ∷ []) [])
  by_flag e text true is = (is, tt)
  by_flag e text false is = tt

  -- a turn whose reservation was completed
  turn_logged : (request : Request) (reply : Reply) (reserved : CallReservation) → IsReserved configuration request reserved
      → AreLogged configuration (Answered request reply ∷ []) (appended_by reserved reply.status)
  turn_logged request reply Reads is =
      let e : Exchange = record { request = request; reply = reply } in
      let no : is_kept configuration e ≡ false = ap (λ (b : Bool). b && (reply.status == 200)) is in
      subst (λ (b : Bool). AreRecordsOf configuration (requests_in (cond b (e ∷ []) [])) []) (sym no) tt
  turn_logged request reply (Holds place) is =
      let e : Exchange = record { request = request; reply = reply } in
      let same : is_kept configuration e ≡ (reply.status == 200) = ap (λ (b : Bool). b && (reply.status == 200)) is.0 in
      subst (λ (b : Bool). AreRecordsOf configuration (requests_in (cond b (e ∷ []) [])) (appended_by (Holds place) reply.status)) (sym same)
      (by_flag e place.text.items (reply.status == 200) is.1)

  -- a turn that changes nothing
  still_logged : (request : Request) (reply : Reply) → may_change (call_of configuration request) ≡ false → AreLogged configuration (Answered request reply ∷ []) []
  still_logged request reply still = turn_logged request reply Reads still

  -- a run whose exchanges are those
  by_kept : (requests : List Request) (replies : List Reply) (history : List Exchange) (texts : List (List ℕ)) → kept configuration (exchanges requests replies) ≡ history
      → AreRecordsOf configuration (requests_in history) texts → AreLogged configuration (Ran requests replies ∷ []) texts
  by_kept requests replies history texts is are =
      subst (λ (es : List Exchange). AreRecordsOf configuration (requests_in (kept configuration es)) texts) (sym (append-nil (exchanges requests replies)))
      (subst (λ (es : List Exchange). AreRecordsOf configuration (requests_in es) texts) (sym is) are)

  -- a run of turns whose reservations were completed
  run_logged : (requests : List Request) (replies : List Reply) (texts : List (List ℕ)) (flags : List Bool)
      → kept configuration (exchanges requests replies) ≡ accepted (exchanges requests replies)
      → AreRecordsOf configuration requests texts → flags ≡ map (λ (reply : Reply). reply.status == 200) replies
      → AreLogged configuration (Ran requests replies ∷ []) (chosen flags texts)
  run_logged requests replies texts flags same are noted =
      subst (λ (fs : List Bool). AreLogged configuration (Ran requests replies ∷ []) (chosen fs texts)) (sym noted)
      (by_kept requests replies (accepted (exchanges requests replies)) (chosen (map (λ (reply : Reply). reply.status == 200) replies) texts) same
      (chosen_are_theirs configuration requests replies texts are))

  -- a run of turns of which none was answered with success
  refused_logged : (requests : List Request) (replies : List Reply) → list_all (λ (reply : Reply). not (reply.status == 200)) replies ≡ true
      → AreLogged configuration (Ran requests replies ∷ []) []
  refused_logged requests replies all = by_kept requests replies [] [] (none_kept configuration requests replies all) tt

-- ---- what a lock keeps

module _ (configuration : Configuration) (client_of : List ℕ → ℕ) where
  -- what is known of a client's own records: they are those of these turns, or there are none yet
  abbrev pub Known : {T : Type 0} → (T → List TurnItem) → Bool → Own → Option T → Type 0
  Known items lost own turns = lost ≡ false → MatchOption turns (own.texts ≡ []) (λ t. OwnsTurns configuration client_of own (items t))

  -- a desk that took no turn yet
  pub owns_opened : {T : Type 0} (turns : Option T) (items : T → List TurnItem) (lost : Bool) (own : Own) (place : ℕ) (all : List TurnItem)
      → ∥ Known items lost own turns ∥₁ → lost ≡ false → turns ≡ None → ∥ ((d : DeskState) × AreTurnsOf configuration place all d) ∥₁ → length all ≡ 1
      → ∥ OwnsTurns configuration client_of own all ∥₁
  owns_opened (Some t) items lost own place all known kept none are alone = absurd cc
  owns_opened None items lost own place all known kept none are alone =
      ∥∥₁_map₂ known are (λ knows turns.
      subst (λ (texts : List (List ℕ)). AreLogged configuration all (of_client client_of own.client texts)) (sym (knows kept))
      (opened_logged configuration place all turns.0 turns.1 alone))

  -- a desk whose turns are just these
  pub owns_same : {T : Type 0} (turns : Option T) (t : T) (items : T → List TurnItem) (lost : Bool) (own : Own) (all : List TurnItem)
      → ∥ Known items lost own turns ∥₁ → lost ≡ false → turns ≡ Some t → items t ≡ all → ∥ OwnsTurns configuration client_of own all ∥₁
  owns_same None t items lost own all known kept some same = absurd cc
  owns_same (Some u) t items lost own all known kept some same =
      let here : items u ≡ all = ap items (the_same u t some) ∙ same in
      ∥∥₁_map known (λ knows. subst (OwnsTurns configuration client_of own) here (knows kept))

  -- in a log that has no others of the client's
  pub whole_logged : (own : Own) (client : ℕ) (items : List TurnItem) (position all : List (List ℕ)) → ∥ OwnsTurns configuration client_of own items ∥₁
      → own.client ≡ client → GoesOnBy client_of own [] position → position ≡ all
      → ∥ AreLogged configuration items (of_client client_of client all) ∥₁
  whole_logged own client items position all owns number goes same =
      let mine : of_client client_of own.client own.texts ≡ of_client client_of client all =
      sym (goes.records ∙ append-nil (of_client client_of own.client own.texts))
      ∙ ap (λ (n : ℕ). of_client client_of n position) number ∙ ap (of_client client_of client) same in
      ∥∥₁_map owns (λ are. subst (AreLogged configuration items) mine are)

  -- a turn more
  pub turn_more : (own : Own) (items all : List TurnItem) (request : Request) (reply : Reply) (reserved : CallReservation)
      → ∥ OwnsTurns configuration client_of own items ∥₁ → IsReserved configuration request reserved → all ≡ items ++ Answered request reply ∷ []
      → ∥ AreLogged configuration all (of_client client_of own.client own.texts ++ appended_by reserved reply.status) ∥₁
  turn_more own items all request reply reserved were is more =
      ∥∥₁_map were (λ are.
      logged_on configuration items (Answered request reply ∷ []) all (of_client client_of own.client own.texts) (appended_by reserved reply.status) are
      (turn_logged configuration request reply reserved is) more)

  -- a turn more that changes nothing
  pub still_more : (own : Own) (items all : List TurnItem) (request : Request) (reply : Reply) → ∥ OwnsTurns configuration client_of own items ∥₁
      → may_change (call_of configuration request) ≡ false → all ≡ items ++ Answered request reply ∷ [] → ∥ OwnsTurns configuration client_of own all ∥₁
  still_more own items all request reply were still more =
      ∥∥₁_map were (λ are.
      let texts = of_client client_of own.client own.texts in
      subst (AreLogged configuration all) (append-nil texts)
      (logged_on configuration items (Answered request reply ∷ []) all texts [] are (still_logged configuration request reply still) more))

  -- a run more
  pub run_more : (own : Own) (items all : List TurnItem) (requests : List Request) (replies : List Reply) (texts : List (List ℕ)) (flags : List Bool)
      → ∥ OwnsTurns configuration client_of own items ∥₁ → kept configuration (exchanges requests replies) ≡ accepted (exchanges requests replies)
      → AreRecordsOf configuration requests texts → flags ≡ map (λ (reply : Reply). reply.status == 200) replies → all ≡ items ++ Ran requests replies ∷ []
      → ∥ AreLogged configuration all (of_client client_of own.client own.texts ++ chosen flags texts) ∥₁
  run_more own items all requests replies texts flags were same its noted more =
      ∥∥₁_map were (λ are.
      logged_on configuration items (Ran requests replies ∷ []) all (of_client client_of own.client own.texts) (chosen flags texts) are
      (run_logged configuration requests replies texts flags same its noted) more)

  -- a run more of which none was accepted
  pub refused_more : (own : Own) (items all : List TurnItem) (requests : List Request) (replies : List Reply) → ∥ OwnsTurns configuration client_of own items ∥₁
      → list_all (λ (reply : Reply). not (reply.status == 200)) replies ≡ true → all ≡ items ++ Ran requests replies ∷ []
      → ∥ OwnsTurns configuration client_of own all ∥₁
  refused_more own items all requests replies were refused more =
      ∥∥₁_map were (λ are.
      let texts = of_client client_of own.client own.texts in
      subst (AreLogged configuration all) (append-nil texts)
      (logged_on configuration items (Ran requests replies ∷ []) all texts [] are (refused_logged configuration requests replies refused) more))

  -- the client's own records are those of the turns where they are its records before and what was appended
  pub owns_now : (own new : Own) (all : List TurnItem) (others : List (List ℕ)) → ∥ AreLogged configuration all (of_client client_of own.client own.texts ++ others) ∥₁
      → new.client ≡ own.client → of_client client_of own.client new.texts ≡ of_client client_of own.client own.texts ++ others
      → ∥ OwnsTurns configuration client_of new all ∥₁
  owns_now own new all others were same grows =
      ∥∥₁_map were (λ are.
      subst (λ (client : ℕ). AreLogged configuration all (of_client client_of client new.texts)) (sym same)
      (subst (AreLogged configuration all) (sym grows) are))

  -- the records of all turns are at the front of the client's payloads in each later log position
  pub shows : (own : Own) (client : ℕ) (items : List TurnItem) (stamp : List (List ℕ)) → ∥ OwnsTurns configuration client_of own items ∥₁
      → own.client ≡ client → IsPrefix own.texts stamp → ∥ ShowsTurns configuration client_of client items stamp ∥₁
  shows own client items stamp were same front =
      let mine : List ℕ → Bool = λ t. client_of t == own.client in
      subst (λ (n : ℕ). ∥ ShowsTurns configuration client_of n items stamp ∥₁) same
      (∥∥₁_map were (λ are.
      record {
        texts = of_client client_of own.client own.texts;
        logged = are;
        shown = (filter mine front.0, sym (filter-append mine own.texts front.0) ∙ ap (filter mine) front.1);
      }))

-- of a client without records a log that has just its own has none
pub none_whole : (client_of : List ℕ → ℕ) (own : Own) (client : ℕ) (position all : List (List ℕ)) → own.client ≡ client → own.texts ≡ []
    → GoesOnBy client_of own [] position → position ≡ all → of_client client_of client all ≡ []
none_whole client_of own client position all numbered none goes same =
    ap (of_client client_of client) (sym same)
    ∙ ap (λ (n : ℕ). of_client client_of n position) (sym numbered)
    ∙ goes.records
    ∙ append-nil (of_client client_of own.client own.texts)
    ∙ ap (of_client client_of own.client) none
