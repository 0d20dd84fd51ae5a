-- The author's records grow with the turns of its room.
use mathlib.Core.List.{IsPrefix}
use Rattle.std.proofs.Common.{◌≡◌, ℕ, Bool, false, List, [], ◌∷◌, ◌++◌, length, Option, Some, None, IfSome, IsSomeAnd, MatchOption, Result, Ok, Err, IfOk, option_map, refl, sym, ap, subst, ◌∙◌, length-append, arith}
use Rattle.std.proofs.Math.Logic.{∥∥₁_elim, ∥∥₁_map, ∥∥₁_map₂, ∥∥₁_prop}
use Rattle.std.proofs.lemmas.List.{append-nil}
use Rattle.journal_commit.specs.Clients.{GoesOnBy, Own, of_client}
use Rattle.journal_commit.specs.declared.backlog.Reservation.{Reservation}
use Rattle.mds_desk.specs.Room.{RoomState}
use Rattle.mds_request.specs.Configuration.{Configuration}
use Rattle.mds_request.specs.Request.{Request}
use Rattle.mds_request.specs.Reply.{Reply}
use Rattle.mds_request.specs.declared.config.Actor.TheVariants.{Author}
use Rattle.server_admission.specs.Actor.{index_of}
use Rattle.server_state.specs.RoomTurns.{AreRoomTurnsOf, IsToldRoomTurn, room_items, room_opened_as}
use Rattle.server_state.specs.TurnItem.{TurnItem, Answered}
use Rattle.server_state.proofs.Openings.{prefix_more}
use Rattle.server_durable.specs.Logged.{AreLogged, OwnsTurns, ShowsTurns}
use Rattle.server_durable.specs.Owners.{appended_by}
use Rattle.server_durable.specs.Records.{IsReserved, place_of}
use Rattle.server_durable.specs.RoomLogged.{IsAppended, IsLoggedRoomTurn, IsUnderway, WillOwnTurns}
use Rattle.server_durable.specs.declared.records.CallReservation.{CallReservation}
use Rattle.server_durable.specs.declared.records.CallReservation.TheVariants.{Reads, Holds}
use Rattle.server_durable.proofs.Logging.{owns_now, shows, turn_more}

-- ---- before a turn

nothing_in : {A : Type 0} (items : List A) → length items ≡ 0 → items ≡ []
nothing_in [] none = refl
nothing_in (item ∷ items) none = absurd (omega (arith, none))

module _ (configuration : Configuration) where
  room_opened : (items : List TurnItem) (r : RoomState) → AreRoomTurnsOf configuration items r → length items ≡ 1 → AreLogged configuration items []
  room_opened items r are alone =
      let more : List TurnItem = room_items are.history in
      let none : more ≡ [] = nothing_in more (omega (arith, alone, ap length are.items_are, length-append (room_opened_as are.opened) more)) in
      let one : items ≡ room_opened_as are.opened = are.items_are ∙ ap (λ (xs : List TurnItem). room_opened_as are.opened ++ xs) none in
      subst (λ (xs : List TurnItem). AreLogged configuration xs []) (sym one) tt

module _ {T : Type 0} (configuration : Configuration) (client_of : List ℕ → ℕ) (items : T → List TurnItem) (own : Own) where
  -- a room that took no turn yet, for which there are no records
  pub owns_no_turn : (known : Option T) (all : List TurnItem) (r : RoomState) → known ≡ None
      → ∥ MatchOption known (own.texts ≡ []) (λ t. OwnsTurns configuration client_of own (items t)) ∥₁
      → ∥ AreRoomTurnsOf configuration all r ∥₁ → length all ≡ 1 → ∥ OwnsTurns configuration client_of own all ∥₁
  owns_no_turn (Some t) all r none were are alone = absurd cc
  owns_no_turn None all r none were are alone =
      ∥∥₁_map₂ were are (λ empty turns.
      subst (λ (texts : List (List ℕ)). AreLogged configuration all (of_client client_of own.client texts)) (sym empty)
      (room_opened configuration all r turns alone))

  -- a room whose turns are just these
  pub owns_those : (known : Option T) (t : T) (all : List TurnItem) → known ≡ Some t
      → ∥ MatchOption known (own.texts ≡ []) (λ k. OwnsTurns configuration client_of own (items k)) ∥₁ → items t ≡ all
      → ∥ OwnsTurns configuration client_of own all ∥₁
  owns_those known t all is were same =
      subst (λ (xs : List TurnItem). ∥ OwnsTurns configuration client_of own xs ∥₁) same
      (subst (λ (k : Option T). ∥ MatchOption k (own.texts ≡ []) (λ u. OwnsTurns configuration client_of own (items u)) ∥₁) is were)

-- ---- the commit of a record

-- what holds for the value of an option holds for that value
pub of_that : {T : Type 0} (P : T → Type 0) (o : Option T) (t : T) → o ≡ Some t → IfSome o P → P t
of_that {T} P o t is holds = subst (λ (v : Option T). IfSome v P) is holds

-- and the other way round
pub as_that : {T : Type 0} (P : T → Type 0) (o : Option T) (t : T) → o ≡ Some t → P t → IsSomeAnd o P
as_that {T} P o t is holds = subst (λ (v : Option T). IsSomeAnd v P) (sym is) holds

held_alike : (left reserved : CallReservation) (status : ℕ) → place_of left ≡ place_of reserved → appended_by left status ≡ appended_by reserved status
held_alike Reads Reads status same = refl
held_alike Reads (Holds place) status same = absurd cc
held_alike (Holds place) Reads status same = absurd cc
held_alike (Holds place) (Holds other) status same =
    let one : place ≡ other = cc in
    ap (λ (p : Reservation). appended_by (Holds p) status) one

appended_held : (place : Reservation) (reserved : CallReservation) → Some place ≡ place_of reserved → place.text.items ∷ [] ≡ appended_by reserved 200
appended_held place Reads same = absurd cc
appended_held place (Holds other) same =
    let one : place ≡ other = cc in
    ap (λ (p : Reservation). p.text.items ∷ []) one

-- nothing is appended yet
pub underway_new : (reserved : CallReservation) (before : Own) (place : Option Reservation) (given : CallReservation) (own : Own) → place ≡ place_of given → given ≡ reserved
    → own ≡ before → ∥ (place ≡ place_of reserved) × (own ≡ before) ∥₁
underway_new reserved before place given own held is same = ∣ (held ∙ ap place_of is, same) ∣₁

module _ {E : Type 0} (client_of : List ℕ → ℕ) (reserved : CallReservation) (before : Own) where
  -- nothing was reserved any more
  pub underway_taken : {H : Type 0} (place : H → Reservation) (held left : Option H) (own : Own) (shown : Option (Result (List (List ℕ)) E)) → held ≡ None → left ≡ None
      → ∥ IsUnderway client_of reserved before (option_map place held) own shown ∥₁ → ∥ IsUnderway client_of reserved before (option_map place left) own shown ∥₁
  underway_taken {H} place held left own shown none nothing underway =
      subst (λ (h : Option H). ∥ IsUnderway client_of reserved before (option_map place h) own shown ∥₁) (none ∙ sym nothing) underway

  append_done : (place : Reservation) (own new : Own) (shown : Option (Result (List (List ℕ)) E)) (stamp : List (List ℕ))
      → IsUnderway client_of reserved before (Some place) own shown → GoesOnBy client_of own (place.text.items ∷ []) stamp → new.texts ≡ stamp → new.client ≡ own.client
      → IsAppended client_of reserved before new stamp
  append_done place own new (Some (Ok other)) stamp is goes known same = absurd (cc (is.0))
  append_done place own new (Some (Err fault)) stamp is goes known same = absurd (cc is)
  append_done place own new None stamp is goes known same =
      let P : Own → Type 0 = λ o. of_client client_of o.client new.texts ≡ of_client client_of o.client o.texts ++ appended_by reserved 200 in
      let grown : P own =
      ap (of_client client_of own.client) known ∙ goes.records
      ∙ ap (λ (texts : List (List ℕ)). of_client client_of own.client own.texts ++ texts) (appended_held place reserved is.0) in
      record { known = known; client = same ∙ ap (λ (o : Own). o.client) is.1; records = subst P is.1 grown }

  -- the record is appended where it was still to be
  pub underway_appended : {H : Type 0} (place : H → Reservation) (held : Option H) (it : H) (left : Option Reservation) (own new : Own) (shown : Option (Result (List (List ℕ)) E)) (stamp : List (List ℕ))
      → held ≡ Some it → left ≡ None → ∥ IsUnderway client_of reserved before (option_map place held) own shown ∥₁ → GoesOnBy client_of own ((place it).text.items ∷ []) stamp
      → new.texts ≡ stamp → new.client ≡ own.client → ∥ (left ≡ None) × IsAppended client_of reserved before new stamp ∥₁
  underway_appended {H} place held it left own new shown stamp is nothing underway goes known same =
      let now = subst (λ (h : Option H). ∥ IsUnderway client_of reserved before (option_map place h) own shown ∥₁) is underway in
      ∥∥₁_map now (λ u. (nothing, append_done (place it) own new shown stamp u goes known same))

module _ {E : Type 0} (configuration : Configuration) (client_of : List ℕ → ℕ) (reserved : CallReservation) (before : Own) where
  -- the records are those of the turns once what was still reserved is completed
  pub owns_completed : (left : CallReservation) (place : Option Reservation) (own new : Own) (shown : Option (Result (List (List ℕ)) E)) (status : ℕ) (all : List TurnItem)
      → shown ≡ None → place ≡ place_of left → ∥ IsUnderway client_of reserved before place own shown ∥₁
      → ∥ WillOwnTurns configuration client_of reserved before status all ∥₁ → new.client ≡ own.client
      → of_client client_of own.client new.texts ≡ of_client client_of own.client own.texts ++ appended_by left status
      → ∥ OwnsTurns configuration client_of new all ∥₁
  owns_completed left place own new (Some s) status all none rest underway will same grows = absurd cc
  owns_completed left place own new None status all none rest underway will same grows =
      ∥∥₁_elim underway ∥∥₁_prop (λ is.
      let P : Own → Type 0 = λ o. of_client client_of o.client new.texts ≡ of_client client_of o.client o.texts ++ appended_by reserved status in
      let grown : P own =
      grows ∙ ap (λ (texts : List (List ℕ)). of_client client_of own.client own.texts ++ texts) (held_alike left reserved status (sym rest ∙ is.0)) in
      owns_now configuration client_of before new all (appended_by reserved status) will (same ∙ ap (λ (o : Own). o.client) is.1) (subst P is.1 grown))

  -- or once it was appended before
  pub owns_appended : (place : Option Reservation) (own : Own) (shown : Option (Result (List (List ℕ)) E)) (stamp : List (List ℕ)) (status : ℕ) (all : List TurnItem)
      → shown ≡ Some (Ok stamp) → status ≡ 200 → ∥ IsUnderway client_of reserved before place own shown ∥₁
      → ∥ WillOwnTurns configuration client_of reserved before status all ∥₁ → ∥ OwnsTurns configuration client_of own all ∥₁
  owns_appended place own shown stamp status all some success underway will =
      let now = subst (λ (s : Option (Result (List (List ℕ)) E)). ∥ IsUnderway client_of reserved before place own s ∥₁) some underway in
      let would = subst (λ (n : ℕ). ∥ WillOwnTurns configuration client_of reserved before n all ∥₁) success will in
      ∥∥₁_elim now ∥∥₁_prop (λ is. owns_now configuration client_of before own all (appended_by reserved 200) would is.1.client is.1.records)

  -- the log position has all of them
  pub shows_appended : (place : Option Reservation) (own : Own) (shown : Option (Result (List (List ℕ)) E)) (stamp : List (List ℕ)) (all : List TurnItem)
      → shown ≡ Some (Ok stamp) → ∥ IsUnderway client_of reserved before place own shown ∥₁ → ∥ OwnsTurns configuration client_of own all ∥₁
      → own.client ≡ index_of Author → ∥ ShowsTurns configuration client_of (index_of Author) all stamp ∥₁
  shows_appended place own shown stamp all some underway owns number =
      let now = subst (λ (s : Option (Result (List (List ℕ)) E)). ∥ IsUnderway client_of reserved before place own s ∥₁) some underway in
      ∥∥₁_elim now ∥∥₁_prop (λ is. shows configuration client_of own (index_of Author) all stamp owns number ([], append-nil own.texts ∙ is.1.known))

-- ---- behind a turn

-- the turn is the last of its room's list
pub told_last_of_room : (configuration : Configuration) (items all : List TurnItem) (request : Request) (reply : Reply) (r : RoomState)
    → ∥ AreRoomTurnsOf configuration all r ∥₁ → all ≡ items ++ Answered request reply ∷ [] → ∥ IsToldRoomTurn configuration request reply all ∥₁
told_last_of_room configuration items all request reply r are is = ∥∥₁_map are (λ turns. record { before = items; after = r; last = is; turns = turns })

module _ {T : Type 0} (configuration : Configuration) (client_of : List ℕ → ℕ) (items : T → List TurnItem) (lost : Bool) (before now : List TurnItem) (request : Request) (reply : Reply) where
  -- the turn is the last of what its room tells
  pub told_of_room : (turns : Option T) (r : RoomState) → IfSome turns (λ t. (lost ≡ false) × (items t ≡ now))
      → IfSome turns (λ t. ∥ AreRoomTurnsOf configuration (items t) r ∥₁) → (lost ≡ false → now ≡ before ++ Answered request reply ∷ [])
      → IfSome turns (λ t. ∥ IsToldRoomTurn configuration request reply (items t) ∥₁)
  told_of_room None r whole are listed = tt
  told_of_room (Some t) r whole are listed = told_last_of_room configuration before (items t) request reply r are (whole.1 ∙ listed whole.0)

  -- behind the turns before it
  pub behind_of_room : (turns : Option T) → IfSome turns (λ t. (lost ≡ false) × (items t ≡ now)) → (lost ≡ false → now ≡ before ++ Answered request reply ∷ [])
      → IfSome turns (λ t. items t ≡ before ++ Answered request reply ∷ [])
  behind_of_room None whole listed = tt
  behind_of_room (Some t) whole listed = whole.1 ∙ listed whole.0

  -- and the author's records are those of all of that once the turn's record is completed
  pub will_own : (turns : Option T) (reserved : CallReservation) (own : Own) → IfSome turns (λ t. (lost ≡ false) × (items t ≡ now))
      → (lost ≡ false → now ≡ before ++ Answered request reply ∷ []) → ∥ OwnsTurns configuration client_of own before ∥₁ → IsReserved configuration request reserved
      → IfSome turns (λ t. ∥ WillOwnTurns configuration client_of reserved own reply.status (items t) ∥₁)
  will_own None reserved own whole listed owns is = tt
  will_own (Some t) reserved own whole listed owns is = turn_more configuration client_of own before (items t) request reply reserved owns is (whole.1 ∙ listed whole.0)

module _ {T V : Type 0} (configuration : Configuration) (client_of : List ℕ → ℕ) (items : T → List TurnItem) (answer : V → Reply) (position : V → List (List ℕ))
    (opening before : List TurnItem) (begun : IsPrefix opening before) where
  of_turns : (request : Request) (reply : Reply) (turns : Option T) (v : V) → answer v ≡ reply
      → IfSome turns (λ t. ∥ IsToldRoomTurn configuration request reply (items t) ∥₁)
      → IfSome turns (λ t. items t ≡ before ++ Answered request reply ∷ [])
      → IsSomeAnd turns (λ t. ∥ ShowsTurns configuration client_of (index_of Author) (items t) (position v) ∥₁)
      → ∥ IsLoggedRoomTurn configuration client_of opening request (answer v) (position v) ∥₁
  of_turns request reply None v same told behind showing = absurd showing
  of_turns request reply (Some t) v same told behind showing =
      let begins : IsPrefix opening (items t) = prefix_more opening before (Answered request reply ∷ []) (items t) begun behind in
      subst (λ (r : Reply). ∥ IsLoggedRoomTurn configuration client_of opening request r (position v) ∥₁) (sym same)
      (∥∥₁_map₂ told showing (λ last shown. record { items = items t; begins = begins; told = last; shows = shown }))

  -- what is told of a turn of the room and its record
  pub logged_outcome : {E : Type 0} (request : Request) (reply : Reply) (turns : Option T) (outcome : Result V E) → IfOk outcome (λ v. answer v ≡ reply)
      → IfSome turns (λ t. ∥ IsToldRoomTurn configuration request reply (items t) ∥₁)
      → IfSome turns (λ t. items t ≡ before ++ Answered request reply ∷ [])
      → IfOk outcome (λ v. IsSomeAnd turns (λ t. ∥ ShowsTurns configuration client_of (index_of Author) (items t) (position v) ∥₁))
      → IfOk outcome (λ v. ∥ IsLoggedRoomTurn configuration client_of opening request (answer v) (position v) ∥₁)
  logged_outcome request reply turns (Ok v) same told behind showing = of_turns request reply turns v same told behind showing
  logged_outcome request reply turns (Err e) same told behind showing = tt
