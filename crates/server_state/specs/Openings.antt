-- The lists of the turns of a hall's room and desks, as these were put behind their locks.
use mathlib.Core.List.{IsPrefix}
use Rattle.std.specs.Prelude.{◌≡◌, ℕ, List, Some, map, slice_get}
use Rattle.mds_snapshot.specs.declared.history.OpeningName.{Ghosts}
use Rattle.server_state.specs.TurnItem.{TurnItem}
use Rattle.server_state.specs.declared.hall.Hall.{Hall}
use Rattle.server_state.specs.declared.hall_name.HallName.{Ghosts as Names}

-- with which the room's list begins, and each desk's, in the configuration's order
pub record Openings : Type 0 where
  pub room : List TurnItem
  pub desks : List (List TurnItem)

-- those of a hall
abbrev pub openings_of : {K : Type 0} {n : Names K} {g : Ghosts K} → Hall K n g → Openings
openings_of hall =
    record {
      room = hall.room_opening.front.seen.log;
      desks = map (λ desk. desk.opening.front.seen.log) hall.desks.items;
    }

-- the list begins as that of the desk at this place
pub record BeginsAt (openings : Openings) (place : ℕ) (items : List TurnItem) : Type 0 where
  pub opening : List TurnItem
  pub is_its : slice_get openings.desks place ≡ Some opening
  pub begins : IsPrefix opening items
