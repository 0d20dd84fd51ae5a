-- A device's row: its last accepted report, and since when its state lasts.
use Rattle.std.specs.Prelude.{ℕ, List}
use Rattle.mds_geometry.specs.declared.position.Position.{Position}
use Rattle.mds_match.specs.declared.vehicle.Vehicle.{Vehicle}
use Rattle.mds_match.specs.declared.vehicle.Words.{Words}

pub record Row : Type 0 where
  pub device : List ℕ
  pub vehicle_type : List ℕ
  pub propulsion : List (List ℕ)
  pub state : List ℕ
  pub events : List (List ℕ)
  pub timestamp : ℕ
  pub position : Position
  pub since : ℕ

-- a word with its types, from the program's `Words`
abbrev pub words_of : Words → List ℕ × List (List ℕ)
words_of w = (w.word, w.types.items)

-- the row of the program's `Vehicle`
abbrev pub row_of : Vehicle → Row
row_of v =
    record {
      device = v.device;
      vehicle_type = v.make.value.word;
      propulsion = v.make.value.types.items;
      state = v.condition.value.word;
      events = v.condition.value.types.items;
      timestamp = v.timestamp;
      position = v.position;
      since = v.since;
    }
