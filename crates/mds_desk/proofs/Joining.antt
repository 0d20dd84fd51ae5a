-- From the calls on desks and the room to their turns, and to one history of all.
use mathlib.Core.List.{IsPrefix}
use Rattle.std.proofs.Common.{◌≡◌, ℕ, List, [], ◌∷◌, ◌++◌, Option, Some, None, refl, sym, ap, subst, ◌∙◌}
use Rattle.std.specs.List.{slice_get}
use Rattle.std.proofs.lemmas.List.{map-append}
use Rattle.mds_catalog.specs.Publication.{Publication}
use Rattle.mds_request.specs.Configuration.{Configuration, Operator}
use Rattle.mds_request.specs.Request.{Request}
use Rattle.mds_request.specs.Reply.{Reply}
use Rattle.mds_machine.specs.Step.{Exchange, new_state}
use Rattle.mds_machine.specs.Desks.{AreTurns}
use Rattle.mds_machine.specs.Fronts.{Turn, last_front, requests_in, replies_in}
use Rattle.mds_machine.specs.OneHistory.{AreItsTurns, HasServed}
use Rattle.mds_machine.specs.Room.{AreRoomTurns}
use Rattle.mds_machine.proofs.Runs.{turns_are_joined}
use Rattle.mds_machine.proofs.Together.{is_one_history}
use Rattle.mds_machine.proofs.Views.{prefix_on, prefix_self, last_on}
use Rattle.mds_desk.specs.Desk.{DeskState, IsSameDesk, new_desk}
use Rattle.mds_desk.specs.Laws.{Event, answered, ran, learnt, Becomes, asked_in, told_in, RoomBecomes, DeskTakesItsTurns, RoomTakesItsTurns, IsOneHistoryOfAll}
use Rattle.mds_desk.specs.Room.{RoomState, held_in, new_room}

-- a prefix of a later list has a last front that is a prefix too
last_below : (a b z : List Publication) (turns : List Turn) → IsPrefix a b → IsPrefix (last_front b turns) z → IsPrefix (last_front a turns) z
last_below a b z [] ab bz = prefix_on a b z ab bz
last_below a b z (turn ∷ turns) ab bz = bz

module _ (operator : Operator) where
  -- turns that lead from one desk to another, with these requests and replies
  pub record Leads (d : DeskState) (requests : List Request) (replies : List Reply) (next : DeskState) : Type 0 where
    pub turns : List Turn
    pub are : AreTurns d.configuration d.place operator d.known d.rows turns next.rows
    pub asks : requests_in turns ≡ requests
    pub tells : replies_in turns ≡ replies
    pub last : IsPrefix (last_front d.known turns) next.known

  -- the operator is found at the same desk
  found_on : (d between : DeskState) → IsSameDesk d between → slice_get d.configuration.operators d.place ≡ Some operator → slice_get between.configuration.operators between.place ≡ Some operator
  found_on d between same found =
      ap (λ c. slice_get c.operators between.place) same.configuration ∙ ap (slice_get d.configuration.operators) same.place ∙ found

  joined : (d between next : DeskState) (requests more : List Request) (replies others : List Reply) → IsSameDesk d between → Leads d requests replies between → Leads between more others next → Leads d (requests ++ more) (replies ++ others) next
  joined d between next requests more replies others same first then =
      let later : AreTurns d.configuration d.place operator between.known between.rows then.turns next.rows =
      subst (λ c. AreTurns c d.place operator between.known between.rows then.turns next.rows) same.configuration
      (subst (λ p. AreTurns between.configuration p operator between.known between.rows then.turns next.rows) same.place then.are) in
      record {
        turns = first.turns ++ then.turns;
        are = turns_are_joined d.configuration d.place operator d.known between.known d.rows between.rows next.rows first.turns then.turns first.are first.last later;
        asks = map-append (λ turn. turn.request) first.turns then.turns ∙ ap (λ rs. rs ++ requests_in then.turns) first.asks ∙ ap (λ rs. requests ++ rs) then.asks;
        tells = map-append (λ turn. turn.reply) first.turns then.turns ∙ ap (λ rs. rs ++ replies_in then.turns) first.tells ∙ ap (λ rs. replies ++ rs) then.tells;
        last = subst (λ l. IsPrefix l next.known) (sym (last_on d.known first.turns then.turns))
            (last_below (last_front d.known first.turns) between.known next.known then.turns first.last then.last);
      }

  -- the calls on a desk are turns of it
  pub leads : (d : DeskState) (events : List Event) (next : DeskState) → slice_get d.configuration.operators d.place ≡ Some operator → Becomes d events next → Leads d (asked_in events) (told_in events) next
  leads d [] next found is =
      record { turns = []; are = ap (λ d. d.rows) is; asks = refl; tells = refl; last = subst (IsPrefix d.known) (sym (ap (λ d. d.known) is)) (prefix_self d.known) }
  leads d (answered request reply ∷ events) next found (between, takes, rest) =
      joined d between next (request ∷ []) (asked_in events) (reply ∷ []) (told_in events) takes.same
      (record {
        turns = record { request = request; front = between.known; reply = reply } ∷ [];
        are = (between.rows, takes.turn operator found, refl);
        asks = refl;
        tells = refl;
        last = prefix_self between.known;
      })
      (leads between events next (found_on d between takes.same found) rest)
  leads d (ran requests replies ∷ events) next found (between, takes, rest) =
      let run = takes.run operator found in
      joined d between next requests (asked_in events) replies (told_in events) takes.same
      (record {
        turns = run.turns;
        are = run.are;
        asks = run.asks;
        tells = run.tells;
        last = subst (λ l. IsPrefix l between.known) run.last (prefix_self between.known);
      })
      (leads between events next (found_on d between takes.same found) rest)
  leads d (learnt list ∷ events) next found (between, learns, rest) =
      joined d between next [] (asked_in events) [] (told_in events) learns.same
      (record { turns = []; are = learns.rows; asks = refl; tells = refl; last = learns.kept })
      (leads between events next (found_on d between learns.same found) rest)

pub desk_takes_its_turns : DeskTakesItsTurns
desk_takes_its_turns configuration place operator events d found becomes =
    let it = leads operator (new_desk configuration place) events d found becomes in
    (it.turns, it.are, it.asks, it.tells, it.last)

room_turns : (r : RoomState) (history : List Exchange) (next : RoomState) → RoomBecomes r history next → AreRoomTurns r.configuration (held_in r) history (held_in next)
room_turns r [] next is = ap held_in is
room_turns r (e ∷ history) next (between, told, takes, rest) = (
  held_in between,
  takes.turn,
  subst (λ c. AreRoomTurns c (held_in between) history (held_in next)) takes.same (room_turns between history next rest),
)

pub room_takes_its_turns : RoomTakesItsTurns
room_takes_its_turns configuration history r becomes = room_turns (new_room configuration) history r becomes

module _ (configuration : Configuration) (history : List Exchange) (r : RoomState) (events : ℕ → List Event) (desks : ℕ → DeskState) (room : RoomBecomes (new_room configuration) history r) (are : (place : ℕ) (operator : Operator) → slice_get configuration.operators place ≡ Some operator → Becomes (new_desk configuration place) (events place) (desks place) × IsPrefix (desks place).known r.publications) where
  record Taken (place : ℕ) (operator : Operator) (turns : List Turn) : Type 0 where
    its : AreItsTurns configuration place operator turns (desks place).rows
    asks : requests_in turns ≡ asked_in (events place)
    tells : replies_in turns ≡ told_in (events place)
    within : IsPrefix (last_front [] turns) r.publications

  taken_by : (place : ℕ) (operator : Operator) → slice_get configuration.operators place ≡ Some operator → (turns : List Turn) × Taken place operator turns
  taken_by place operator found =
      let at = are place operator found in
      let it = desk_takes_its_turns configuration place operator (events place) (desks place) found at.0 in (
        it.0,
        record {
          its = it.1;
          asks = it.2;
          tells = it.3;
          within = prefix_on (last_front [] it.0) (desks place).known r.publications it.4 at.1;
        },
      )

  abbrev turns_at : (place : ℕ) (found : Option Operator) → slice_get configuration.operators place ≡ found → List Turn
  turns_at place None is = []
  turns_at place (Some operator) is = (taken_by place operator is).0

  taken_at : (place : ℕ) (found : Option Operator) (is : slice_get configuration.operators place ≡ found) (operator : Operator) → found ≡ Some operator → Taken place operator (turns_at place found is)
  taken_at place None is operator there = absurd (cc)
  taken_at place (Some o) is operator there =
      subst (λ p. Taken place p (turns_at place (Some o) is)) (let same : o ≡ operator = cc in same) (taken_by place o is).1

  one_history : (turns : ℕ → List Turn) × ((place : ℕ) (operator : Operator) → slice_get configuration.operators place ≡ Some operator → Taken place operator (turns place))
  one_history = (
    (λ place. turns_at place (slice_get configuration.operators place) refl),
    (λ place operator there. taken_at place (slice_get configuration.operators place) refl operator there),
  )

pub is_one_history_of_all : IsOneHistoryOfAll
is_one_history_of_all configuration history r events desks room are =
    let all = one_history configuration history r events desks room are in
    let drawn : AreRoomTurns configuration ((new_state configuration).drafts, []) history (r.drafts, r.publications) =
    room_takes_its_turns configuration history r room in
    let served : HasServed configuration history r.publications all.0 =
    record {
      drafts = r.drafts;
      room = drawn;
      desks = λ place operator found. let t = all.1 place operator found in ((desks place).rows, t.its, t.within);
    } in
    let whole = is_one_history configuration history r.publications all.0 served in (
      all.0,
      (λ place operator found. let t = all.1 place operator found in (t.its, t.asks, t.tells)),
      whole.0,
      whole.1,
      whole.2,
      whole.2.drafts r.drafts drawn,
      (λ place operator found. whole.2.rows place operator (desks place).rows found (all.1 place operator found).its),
    )
