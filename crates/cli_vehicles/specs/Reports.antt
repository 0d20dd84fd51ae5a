-- What a vehicle of a feed becomes: MDS 2.0 (vehicle status, with vehicles) and GBFS 3 (vehicle_status.json, with vehicle_types.json).
use Rattle.std.specs.Prelude.{ℕ, ℤ, pos, ◌*ℤ◌, int_lt, int_div, List, ◌++◌, Bool, false, not, ◌&&◌, ◌||◌, bytes_eq, if◌then◌else◌, Option, Some, None, Result, Ok, Err, option_map, option_and_then, codes}
use Rattle.std.specs.Fmt.{signed_decimal}
use Rattle.jiff.specs.Words.{parse_timestamp}
use Rattle.jiff_core.specs.declared.error.Error.{Error}
use Rattle.uuid.specs.Text.{hyphenated_text, lower}
use Rattle.mds_text.specs.Printed.{printed, quoted}
use Rattle.mds_text.specs.Tree.{Json, boolean, int, text}
use Rattle.cli_documents.specs.Members.{named, text_named, id_named}
use Rattle.cli_documents.specs.Documents.{id_of_name}
use Rattle.cli_vehicles.specs.Published.{bare}
use Rattle.cli_vehicles.specs.declared.report.StateMembers as program_deed
use Rattle.cli_vehicles.specs.declared.report.TypeMembers as program_make
use Rattle.cli_vehicles.specs.declared.report.VehicleOutcome as program_meant
use Rattle.cli_vehicles.specs.declared.report.VehicleOutcome.TheVariants as meant
use Rattle.cli_vehicles.specs.declared.report.PositionMembers as program_place

-- a report that is sent, a vehicle that is removed from the fleet, or the member for which nothing is sent
pub data Meant : Type 0 where
  present : (body : List ℕ) → Meant
  gone : (device : List ℕ) → Meant
  faulty : (member : List ℕ) → Meant

-- a vehicle's position, in degrees as they are written: its latitude and its longitude
pub record Place : Type 0 where
  pub lat : List ℕ
  pub lng : List ℕ

-- a vehicle's type as the text of a JSON string, and the text of the list of its propulsion types
pub record Make : Type 0 where
  pub kind : List ℕ
  pub propulsion : List ℕ

-- a vehicle's state as the text of a JSON string, the text of the list of its events' types, and that of their moment
pub record Deed : Type 0 where
  pub state : List ℕ
  pub events : List ℕ
  pub moment : List ℕ

-- the text of a report (PROTOCOL, vehicle report)
unfoldable pub place_text : Place → List ℕ
place_text place = codes ",\"location\":{\"lat\":" ++ place.lat ++ codes ",\"lng\":" ++ place.lng ++ codes "}"

unfoldable pub make_text : Make → List ℕ
make_text make = codes ",\"propulsion_types\":" ++ make.propulsion ++ codes ",\"vehicle_type\":" ++ make.kind

unfoldable pub deed_text : Deed → List ℕ
deed_text deed = codes ",\"event_types\":" ++ deed.events ++ codes ",\"timestamp\":" ++ deed.moment ++ codes ",\"vehicle_state\":" ++ deed.state

unfoldable pub device_text : List ℕ → List ℕ
device_text device = codes "{\"device_id\":\"" ++ hyphenated_text lower device ++ codes "\""

abbrev pub report_text : List ℕ → Place → Make → Deed → List ℕ
report_text device place make deed =
    device_text device ++ deed_text deed ++ place_text place ++ make_text make ++ codes "}"

-- the states of a vehicle that isn't on the street (MDS 2.0, vehicle states): it is removed from the fleet
abbrev pub is_away : List ℕ → Bool
is_away state = bytes_eq state (codes "removed") || bytes_eq state (codes "missing") || bytes_eq state (codes "elsewhere")

-- the text of a list; of an empty one where there is none
abbrev pub list_text : Option Json → List ℕ
list_text None = codes "[]"
list_text (Some value) = printed value

-- a position, by the names of its latitude and its longitude
abbrev pub place_with : Option Json → Option Json → Option Place
place_with (Some lat) (Some lng) = Some (record { lat = bare lat; lng = bare lng })
place_with lat lng = None

abbrev pub place_at : List ℕ → List ℕ → Json → Option Place
place_at lat lng value = place_with (named lat value) (named lng value)

-- the first of two that may be missing
abbrev pub or_other : {A : Type 0} → Option A → Option A → Option A
or_other None other = other
or_other (Some a) other = Some a

-- MDS: the position of an event, or else that of the last telemetry
abbrev pub located : Json → Option Place
located value = option_and_then (place_at (codes "lat") (codes "lng")) (named (codes "location") value)

abbrev pub mds_place : Json → Json → Option Place
mds_place status event = or_other (located event) (option_and_then located (named (codes "last_telemetry") status))

-- MDS: a vehicle's type and propulsion, by its entry among the vehicles
abbrev pub mds_make : Json → Option Make
mds_make vehicle =
    option_map (λ kind. record { kind = quoted kind; propulsion = list_text (named (codes "propulsion_types") vehicle) }) (text_named (codes "vehicle_type") vehicle)

abbrev pub mds_deed : List ℕ → Json → Option Deed
mds_deed state event =
    option_map (λ moment. record { state = quoted state; events = list_text (named (codes "event_types") event); moment = printed moment }) (named (codes "timestamp") event)

-- a report of the parts of a vehicle, or the first member that is missing
abbrev pub told : List ℕ → List ℕ → Option Place → Option Make → Option Deed → Meant
told device where_named None make deed = faulty where_named
told device where_named (Some place) None deed = faulty (codes "vehicle_type")
told device where_named (Some place) (Some make) None = faulty (codes "timestamp")
told device where_named (Some place) (Some make) (Some deed) = present (report_text device place make deed)

-- MDS: a vehicle in a state, by its status, its last event and its own entry
abbrev pub mds_in_state : List ℕ → List ℕ → Json → Json → Json → Meant
mds_in_state device state status event vehicle =
    if is_away state then gone device else told device (codes "location") (mds_place status event) (mds_make vehicle) (mds_deed state event)

abbrev pub mds_stated : List ℕ → Option (List ℕ) → Json → Json → Json → Meant
mds_stated device None status event vehicle = faulty (codes "vehicle_state")
mds_stated device (Some state) status event vehicle = mds_in_state device state status event vehicle

abbrev pub mds_with : Option (List ℕ) → Option Json → Json → Json → Meant
mds_with None event status vehicle = faulty (codes "device_id")
mds_with (Some device) None status vehicle = faulty (codes "last_event")
mds_with (Some device) (Some event) status vehicle = mds_stated device (text_named (codes "vehicle_state") event) status event vehicle

abbrev pub mds_meant : Json → Json → Meant
mds_meant status vehicle = mds_with (id_named (codes "device_id") status) (named (codes "last_event") status) status vehicle

-- GBFS: the moment that a text is (RFC 3339), in milliseconds
abbrev pub millis_of : Result ℤ Error → Option ℤ
millis_of (Ok nanos) = Some (int_div nanos (pos 1_000_000))
millis_of (Err fault) = None

abbrev pub millis_in : List ℕ → Option ℤ
millis_in s = millis_of (parse_timestamp s)

-- GBFS before version 3: a moment in seconds, of at most ten digits
abbrev pub millis_at : ℤ → Option ℤ
millis_at seconds = if not (int_lt seconds (pos 0)) && int_lt seconds (pos 10_000_000_000) then Some (seconds *ℤ pos 1_000) else None

abbrev pub instant_of : Json → Option ℤ
instant_of (text s) = millis_in s
instant_of (int z) = millis_at z
instant_of value = None

-- GBFS: whether a member is there and true
abbrev pub is_true : Option Json → Bool
is_true (Some (boolean b)) = b
is_true value = false

-- GBFS: the state of a vehicle: out of order, reserved or available
abbrev pub gbfs_state : Json → List ℕ
gbfs_state vehicle =
    if is_true (named (codes "is_disabled") vehicle) then codes "non_operational"
    else (if is_true (named (codes "is_reserved") vehicle) then codes "reserved" else codes "available")

-- GBFS: a vehicle's type and propulsion, by the entry of its type
abbrev pub one_text : Option Json → List ℕ
one_text None = codes "[]"
one_text (Some value) = codes "[" ++ printed value ++ codes "]"

abbrev pub gbfs_make : Option Json → Option Make
gbfs_make None = None
gbfs_make (Some type) =
    option_map (λ kind. record { kind = quoted kind; propulsion = one_text (named (codes "propulsion_type") type) }) (text_named (codes "form_factor") type)

abbrev pub gbfs_deed : Json → Option ℤ → Option Deed
gbfs_deed vehicle moment = option_map (λ at. record { state = quoted (gbfs_state vehicle); events = codes "[]"; moment = signed_decimal at }) moment

-- GBFS: a vehicle at a moment; its device is the identifier derived from its `vehicle_id`
abbrev pub gbfs_with : Option (List ℕ) → Json → Option Json → Option ℤ → Meant
gbfs_with None vehicle type moment = faulty (codes "vehicle_id")
gbfs_with (Some name) vehicle type moment =
    told (id_of_name name) (codes "lat") (place_at (codes "lat") (codes "lon") vehicle) (gbfs_make type) (gbfs_deed vehicle moment)

abbrev pub gbfs_meant : Json → Option Json → Option ℤ → Meant
gbfs_meant vehicle type moment = gbfs_with (text_named (codes "vehicle_id") vehicle) vehicle type moment

abbrev pub place_view : program_place.PositionMembers → Place
place_view p = record { lat = p.lat.items; lng = p.lng.items }

abbrev pub make_view : program_make.TypeMembers → Make
make_view m = record { kind = m.kind.items; propulsion = m.propulsion.items }

abbrev pub deed_view : program_deed.StateMembers → Deed
deed_view d = record { state = d.state.items; events = d.events.items; moment = d.moment.items }

abbrev pub meant_view : program_meant.VehicleOutcome → Meant
meant_view (meant.Present body) = present body.items
meant_view (meant.Gone device) = gone device
meant_view (meant.Faulty member) = faulty member.now
