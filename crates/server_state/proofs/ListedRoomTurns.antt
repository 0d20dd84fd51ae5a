-- The list of the room's turns grows with them.
use Rattle.std.proofs.Common.{◌≡◌, Bool, true, false, not, ◌||◌, List, [], ◌∷◌, ◌++◌, Option, refl, sym, ap, subst, ◌∙◌, append_assoc}
use Rattle.std.proofs.lemmas.List.{map-append}
use Rattle.std.proofs.Math.Logic.{∥∥₁_map}
use Rattle.mds_catalog.specs.Publication.{Publication}
use Rattle.mds_drafts.specs.Drafts.{Drafts}
use Rattle.mds_request.specs.Configuration.{Configuration}
use Rattle.mds_request.specs.Request.{Request}
use Rattle.mds_request.specs.Reply.{Reply}
use Rattle.mds_machine.specs.Step.{Exchange}
use Rattle.mds_machine.specs.Room.{AreRoomTurns, IsRoomTurn}
use Rattle.mds_desk.specs.Room.{RoomState, TakesRoomTurn, held_in}
use Rattle.server_state.specs.TurnItem.{TurnItem, Answered}
use Rattle.server_state.specs.RoomTurns.{AreRoomTurnsOf, IsToldRoomTurn, room_items, room_opened_as}
use Rattle.server_state.proofs.ListedTurns.{none_lost}

module _ (configuration : Configuration) where
  turn_more : (held mid last : Drafts × List Publication) (history : List Exchange) (e : Exchange) → AreRoomTurns configuration held history mid
      → IsRoomTurn configuration mid e.request e.reply last → AreRoomTurns configuration held (history ++ e ∷ []) last
  turn_more held mid last [] e is turn = (last, subst (λ (h : Drafts × List Publication). IsRoomTurn configuration h e.request e.reply last) is turn, refl)
  turn_more held mid last (x ∷ history) e (between, first, then) turn = (between, first, turn_more between mid last history e then turn)

  -- no turn yet
  pub room_none_yet : (r : RoomState) → r.configuration ≡ configuration → AreRoomTurnsOf configuration (room_opened_as (held_in r)) r
  room_none_yet r its = record { opened = held_in r; history = []; is_its = its; items_are = refl; turns = refl }

  -- one more turn
  pub room_one_more : (items all : List TurnItem) (request : Request) (reply : Reply) (told : Option (List Publication)) (r next : RoomState)
      → AreRoomTurnsOf configuration items r → TakesRoomTurn r request reply told next → all ≡ items ++ Answered request reply ∷ [] → AreRoomTurnsOf configuration all next
  room_one_more items all request reply told r next are takes is =
      let e : Exchange = record { request = request; reply = reply } in
      let turn : IsRoomTurn configuration (held_in r) request reply (held_in next) =
      subst (λ (c : Configuration). IsRoomTurn c (held_in r) request reply (held_in next)) are.is_its takes.turn in
      record {
        opened = are.opened;
        history = are.history ++ e ∷ [];
        is_its = takes.same ∙ are.is_its;
        items_are = is ∙ ap (λ (xs : List TurnItem). xs ++ Answered request reply ∷ []) are.items_are
            ∙ append_assoc (room_opened_as are.opened) (room_items are.history) (Answered request reply ∷ [])
            ∙ ap (λ (xs : List TurnItem). room_opened_as are.opened ++ xs) (sym (map-append (λ (x : Exchange). Answered x.request x.reply) are.history (e ∷ [])));
        turns = turn_more are.opened (held_in r) (held_in next) are.history e are.turns turn;
      }

  abbrev pub RoomListed : Bool → List TurnItem → RoomState → Type 0
  RoomListed lost items r = lost ≡ false → AreRoomTurnsOf configuration items r

  -- what a lock's room keeps, over one more turn
  pub room_turn_listed : (lost listed after : Bool) (items all : List TurnItem) (request : Request) (reply : Reply) (told : Option (List Publication)) (r next : RoomState)
      → ∥ RoomListed lost items r ∥₁ → TakesRoomTurn r request reply told next → after ≡ (lost || not listed) → (listed ≡ true → all ≡ items ++ Answered request reply ∷ [])
      → ∥ RoomListed after all next ∥₁
  room_turn_listed lost listed after items all request reply told r next were takes is added =
      ∥∥₁_map were (λ are kept.
      let both = none_lost configuration 0 lost listed after is kept in
      room_one_more items all request reply told r next (are both.0) takes (added both.1))

  -- that turn is the last of the list
  pub room_is_last : (items all : List TurnItem) (request : Request) (reply : Reply) (r : RoomState) → ∥ AreRoomTurnsOf configuration all r ∥₁
      → all ≡ items ++ Answered request reply ∷ [] → ∥ IsToldRoomTurn configuration request reply all ∥₁
  room_is_last items all request reply r are is = ∥∥₁_map are (λ turns. record { before = items; after = r; last = is; turns = turns })
