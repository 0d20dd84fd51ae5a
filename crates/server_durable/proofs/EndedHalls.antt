-- What a hall did until it ended, and its log.
use mathlib.Core.List.{IsPrefix}
use Rattle.std.proofs.Common.{◌≡◌, ◌+◌, ℕ, List, [], ◌∷◌, ◌++◌, length, map, slice_get, option_map, Option, Some, None, zero, suc, refl, sym, ap, subst, ◌∙◌, arith, append_assoc, length-append}
use Rattle.std.specs.FinMap.{empty}
use Rattle.std.proofs.lemmas.List.{append-nil}
use Rattle.std.proofs.lemmas.Option.{slice_get-map}
use Rattle.std.proofs.Math.Logic.{∥∥₁_map, ∥∥₁_map₂}
use Rattle.journal_commit.specs.Clients.{of_client}
use Rattle.mds_catalog.specs.Publication.{Publication}
use Rattle.mds_desk.specs.Desk.{DeskState, new_desk}
use Rattle.mds_desk.specs.Room.{RoomState}
use Rattle.mds_machine.specs.Step.{new_state}
use Rattle.mds_request.specs.Configuration.{Configuration}
use Rattle.mds_request.specs.declared.config.Actor.TheVariants.{Author, Nobody, Operator as OperatorAt}
use Rattle.server_admission.specs.Actor.{index_of}
use Rattle.server_state.specs.RoomTurns.{AreRoomTurnsOf}
use Rattle.server_state.specs.TurnItem.{TurnItem}
use Rattle.server_state.specs.TurnList.{AreTurnsOf, opened_as}
use Rattle.server_durable.specs.Journals.{AreEndedBehind, AreEndedDesks, EndedHallsGoOn, EndsLogged, IsEndedDesk, IsLoggedHall}
use Rattle.server_durable.specs.Journals.{NoEntriesAreAJournal, StoppedServersLeaveJournals, items_at, lists_of}
use Rattle.server_durable.specs.Logged.{AreLogged, exchanges_in}
use Rattle.server_durable.specs.Owners.{client_in}
use Rattle.server_durable.proofs.Journals.{journals_go_on}
use Rattle.server_durable.proofs.LoggedHalls.{halls_go_on}
use Rattle.server_durable.proofs.ReadConfigurations.{read_configurations_tell_clients}

module _ (configuration : Configuration) (publications : List Publication) (texts : List (List ℕ)) where
  -- ---- the desks are taken out from the last on

  joined : (place : ℕ) (some more : List (List TurnItem)) → AreEndedDesks configuration publications texts place some
      → AreEndedDesks configuration publications texts (place + length some) more → AreEndedDesks configuration publications texts place (some ++ more)
  joined place [] more first then =
      let none : place + length {A = List TurnItem} [] ≡ place = omega arith in
      subst (λ (n : ℕ). AreEndedDesks configuration publications texts n more) none then
  joined place (opening ∷ some) more (it, first) then =
      let next : place + length (opening ∷ some) ≡ (place + 1) + length some = omega arith in
      (it, joined (place + 1) some more first (subst (λ (n : ℕ). AreEndedDesks configuration publications texts n more) next then))

  more_behind : (new now openings : List (List TurnItem)) → AreEndedBehind configuration publications texts new now
      → AreEndedBehind configuration publications texts now openings → AreEndedBehind configuration publications texts new openings
  more_behind new now openings last behind = record {
    ended = last.ended ++ behind.ended;
    openings_are = behind.openings_are ∙ ap (λ (xs : List (List TurnItem)). xs ++ behind.ended) last.openings_are ∙ append_assoc new last.ended behind.ended;
    each = joined (length new) last.ended behind.ended last.each
        (subst (λ (n : ℕ). AreEndedDesks configuration publications texts n behind.ended)
        (ap length last.openings_are ∙ length-append new last.ended) behind.each);
  }

  pub one_more_behind : (new now openings : List (List TurnItem)) → ∥ AreEndedBehind configuration publications texts new now ∥₁
      → ∥ AreEndedBehind configuration publications texts now openings ∥₁ → ∥ AreEndedBehind configuration publications texts new openings ∥₁
  one_more_behind new now openings last behind = ∥∥₁_map₂ last behind (more_behind new now openings)

  pub none_behind : (openings : List (List TurnItem)) → ∥ AreEndedBehind configuration publications texts openings openings ∥₁
  none_behind openings = ∣ record { ended = []; openings_are = sym (append-nil openings); each = tt } ∣₁

  all_of : (rest openings : List (List TurnItem)) → length rest ≡ 0 → AreEndedBehind configuration publications texts rest openings
      → AreEndedDesks configuration publications texts 0 openings
  all_of [] openings none behind = subst (AreEndedDesks configuration publications texts 0) (sym behind.openings_are) behind.each
  all_of (opening ∷ rest) openings none behind = absurd (omega (arith, none))

  pub all_behind : (rest openings : List (List TurnItem)) → length rest ≡ 0 → ∥ AreEndedBehind configuration publications texts rest openings ∥₁
      → ∥ AreEndedDesks configuration publications texts 0 openings ∥₁
  all_behind rest openings none behind = ∥∥₁_map behind (all_of rest openings none)

  -- the last desk
  pub last_behind : (client_of : List ℕ → ℕ) (rest openings : List (List TurnItem)) (opening items : List TurnItem) (after : DeskState) (place own : ℕ)
      → client_of ≡ client_in configuration → openings ≡ rest ++ opening ∷ [] → place ≡ length rest → own ≡ length rest
      → IsPrefix opening items → IsPrefix after.known publications → ∥ AreTurnsOf configuration place items after ∥₁
      → ∥ AreLogged configuration items (of_client client_of (index_of (OperatorAt own)) texts) ∥₁
      → ∥ AreEndedBehind configuration publications texts rest openings ∥₁
  last_behind client_of rest openings opening items after place own same are there mine begins known turns logged =
      ∥∥₁_map₂ turns logged (λ t l.
      let it : IsEndedDesk configuration publications texts (length rest) opening = record {
        after = after;
        items = items;
        opened = begins;
        turns = subst (λ (n : ℕ). AreTurnsOf configuration n items after) there t;
        logged = subst (λ (f : List ℕ → ℕ). AreLogged configuration items (of_client f (index_of (OperatorAt (length rest))) texts)) same
            (subst (λ (n : ℕ). AreLogged configuration items (of_client client_of (index_of (OperatorAt n)) texts)) mine l);
        known = known;
      } in
      record { ended = opening ∷ []; openings_are = are; each = (it, tt) })

  -- ---- the desk at a place

  -- what a desk with this opening did
  abbrev Did : ℕ → DeskState → List TurnItem → List TurnItem → Type 0
  Did place after items opening =
      IsPrefix opening items × AreTurnsOf configuration place items after
      × AreLogged configuration items (of_client (client_in configuration) (index_of (OperatorAt place)) texts) × IsPrefix after.known publications

  did_at : (first place : ℕ) (openings : List (List TurnItem)) (opening : List TurnItem) (ends : AreEndedDesks configuration publications texts first openings)
      → slice_get openings place ≡ Some opening
      → (after : DeskState) × Did (first + place) after (items_at configuration publications texts first openings ends place) opening
  did_at first place [] opening ends is = absurd cc
  did_at first zero (own ∷ openings) opening (it, ends) is =
      let same : own ≡ opening = cc in
      let here : first ≡ first + zero = omega arith in
      (it.after, subst (λ (n : ℕ). Did n it.after it.items opening) here (subst (Did first it.after it.items) same (it.opened, it.turns, it.logged, it.known)))
  did_at first (suc place) (own ∷ openings) opening (it, ends) is =
      let here : (first + 1) + place ≡ first + suc place = omega arith in
      let items = items_at configuration publications texts (first + 1) openings ends place in
      let did = did_at (first + 1) place openings opening ends is in
      (did.0, subst (λ (n : ℕ). Did n did.0 items opening) here did.1)

  module _ (openings : List (List TurnItem)) (ends : AreEndedDesks configuration publications texts 0 openings) where
    record DeskAt (place : ℕ) : Type 0 where
      after : DeskState
      did : (opening : List TurnItem) → slice_get openings place ≡ Some opening
          → Did place after (items_at configuration publications texts 0 openings ends place) opening

    desk_in : (place : ℕ) (found : Option (List TurnItem)) → slice_get openings place ≡ found → DeskAt place
    desk_in place None none = record { after = new_desk configuration place; did = λ opening is. absurd (let no = sym none ∙ is in cc) }
    desk_in place (Some own) there =
        let here : 0 + place ≡ place = omega arith in
        let items = items_at configuration publications texts 0 openings ends place in
        let it = did_at 0 place openings own ends there in
        record {
          after = it.0;
          did = λ opening is.
              let same : own ≡ opening = let both = sym there ∙ is in cc in
              subst (λ (n : ℕ). Did n it.0 items opening) here (subst (Did (0 + place) it.0 items) same it.1);
        }

    desk_at : (place : ℕ) → DeskAt place
    desk_at place = desk_in place (slice_get openings place) refl

-- the room, and all desks
pub ends_logged : (configuration : Configuration) (texts : List (List ℕ)) (client_of : List ℕ → ℕ) (opening room : List TurnItem)
    (openings : List (List TurnItem)) (r : RoomState) → client_of ≡ client_in configuration → IsPrefix opening room
    → ∥ AreRoomTurnsOf configuration room r ∥₁ → ∥ AreLogged configuration room (of_client client_of (index_of Author) texts) ∥₁
    → ∥ AreEndedDesks configuration r.publications texts 0 openings ∥₁ → of_client client_of (index_of Nobody) texts ≡ []
    → ∥ EndsLogged configuration opening openings texts ∥₁
ends_logged configuration texts client_of opening room openings r same begins turns logged desks none =
    let both : ∥ (AreRoomTurnsOf configuration room r × AreLogged configuration room (of_client client_of (index_of Author) texts)) ∥₁ =
    ∥∥₁_map₂ turns logged (λ t l. (t, l)) in
    ∥∥₁_map₂ both desks (λ tl d. record {
      r = r;
      room = room;
      opened = begins;
      turns = tl.0;
      logged = subst (λ (f : List ℕ → ℕ). AreLogged configuration room (of_client f (index_of Author) texts)) same tl.1;
      desks = d;
      no_others = subst (λ (f : List ℕ → ℕ). of_client f (index_of Nobody) texts ≡ []) same none;
    })

pub ended_halls_go_on : EndedHallsGoOn
ended_halls_go_on configuration s texts tells served ends =
    let desk = desk_at configuration ends.r.publications texts (map opened_as s.desks) ends.desks in
    let hall : IsLoggedHall configuration s ends.r ends.room (λ place. (desk place).after) (lists_of ends) texts =
    record {
      opened = ends.opened;
      turns = ends.turns;
      logged = ends.logged;
      each = λ place operator d is there.
          let did = (desk place).did (opened_as d) (slice_get-map opened_as s.desks place ∙ ap (option_map opened_as) there) in
          (record { opened = did.0; turns = did.1; logged = did.2 }, did.3);
      no_others = ends.no_others;
    } in
    halls_go_on configuration s ends.r ends.room (λ place. (desk place).after) (lists_of ends) texts tells served hall

-- ---- and the next server is started again from its journal

pub no_entries_are_a_journal : NoEntriesAreAJournal
no_entries_are_a_journal configuration = record {
  served = record { drafts = (new_state configuration).drafts; room = refl; desks = λ place operator is. (empty, refl, ([], refl)) };
  journal = record { author = refl; operators = λ place operator is. refl };
}

pub stopped_servers_leave_journals : StoppedServersLeaveJournals
stopped_servers_leave_journals text configuration entries told publications turns s texts is done started ends =
    let tells = (read_configurations_tell_clients text configuration is).0 in
    let since = ended_halls_go_on configuration s texts tells started.placed ends in
    let more = since.0 in
    let later = since.1 in (
      more,
      later,
      since.2,
      since.3,
      record {
        served = started.one told (exchanges_in ends.room) publications ends.r.publications turns later done.served done.journal since.4;
        journal = journals_go_on configuration entries more told (exchanges_in ends.room) turns later done.journal since.5;
      },
    )
