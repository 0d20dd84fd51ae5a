-- What a text of a vehicle report reads as: the report, or the first line of its table that it doesn't meet.
use Rattle.std.specs.Prelude.{ℕ, ℤ, List, Result, Ok}
use Rattle.mds_text.specs.Tree.{Json}
use Rattle.mds_text.specs.Fault.{Fault, ◌>>=◌}
use Rattle.mds_text.specs.Fields.{optional_at, required_at, required_member, id_of, token_of, moment_of, list_each, or_empty, object_of, document_of}
use Rattle.mds_text.specs.Reading.{read_text}
use Rattle.mds_text.specs.declared.field.Field.{Field}
use Rattle.mds_text.specs.declared.field.Field.TheVariants.{DeviceId, VehicleType, PropulsionTypes, VehicleState, EventTypes, Timestamp, Location, Lat, Lng}
use Rattle.mds_geometry.specs.Coordinate.{coordinate_of}
use Rattle.mds_geometry.specs.declared.position.Position.{Position}
use Rattle.mds_fleet.specs.Books.{Report}

-- a list of tokens; absent and null are the empty list
abbrev pub tokens_at : Json → Field → Result (List (List ℕ)) Fault
tokens_at document field = optional_at (list_each token_of) document field >>= λ found. Ok (or_empty found)

-- the member `location`: an object
abbrev pub location_of : Json → Result Json Fault
location_of document = required_member document Location >>= object_of Location

-- a coordinate of at most so many degrees from zero
abbrev pub coordinate_at : ℕ → Json → Field → Result ℤ Fault
coordinate_at most document field = required_member document field >>= coordinate_of most field

-- the position: its latitude is read first, then its longitude
abbrev pub position_of : Json → Result Position Fault
position_of location = do
  lat ← coordinate_at 90 location Lat
  lng ← coordinate_at 180 location Lng
  Ok (record { lng = lng; lat = lat })

-- a report, line by line of its table
unfoldable pub report_of : Json → Result Report Fault
report_of tree = do
  document ← document_of tree
  device ← required_at id_of document DeviceId
  vehicle_type ← required_at token_of document VehicleType
  propulsion ← tokens_at document PropulsionTypes
  state ← required_at token_of document VehicleState
  events ← tokens_at document EventTypes
  timestamp ← required_at moment_of document Timestamp
  location ← location_of document
  position ← position_of location
  Ok (record {
    device = device;
    vehicle_type = vehicle_type;
    propulsion = propulsion;
    state = state;
    events = events;
    timestamp = timestamp;
    position = position;
  })

-- the report of a text
abbrev pub read_report : List ℕ → Result Report Fault
read_report bytes = read_text bytes >>= report_of
