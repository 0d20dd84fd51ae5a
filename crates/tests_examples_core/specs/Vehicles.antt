-- Reports of vehicles, and their rows.
use Rattle.std.specs.Prelude.{ℕ, List, [], ◌∷◌, ◌++◌, codes}
use Rattle.std.specs.FinMap.{empty, insert}
use Rattle.mds_fleet.specs.Books.{Report, Rows, row_from}
use Rattle.mds_geometry.specs.declared.position.Position.{Position}
use Rattle.mds_match.specs.Row.{Row}
use Rattle.tests_examples_core.specs.Geographies.{east}
use Rattle.tests_examples_core.specs.Ids.{id, id_text}

-- a report of an electric scooter that is available after a trip
abbrev pub report_of : List ℕ → Position → ℕ → Report
report_of device position timestamp =
    record {
      device = device;
      vehicle_type = codes "scooter";
      propulsion = codes "electric" ∷ [];
      state = codes "available";
      events = codes "trip_end" ∷ [];
      timestamp = timestamp;
      position = position;
    }

abbrev pub first_device : List ℕ
first_device = id 4 1

abbrev pub second_device : List ℕ
second_device = id 4 2

-- a report of the first device, in the square
abbrev pub first_report : ℕ → Report
first_report timestamp = report_of first_device (east 5 5) timestamp

-- a report of the same vehicle on a trip
abbrev pub busy_report : ℕ → Report
busy_report timestamp = record (first_report timestamp) { state = codes "on_trip"; events = codes "trip_start" ∷ [] }

abbrev pub second_report : ℕ → Report
second_report timestamp = report_of second_device (east 5 5) timestamp

abbrev pub third_device : List ℕ
third_device = id 4 3

abbrev pub third_report : ℕ → Report
third_report timestamp = report_of third_device (east 5 5) timestamp

-- the text of such a report at 2000, with the end of its device's identifier and its location
abbrev pub report_text : List ℕ → List ℕ → List ℕ
report_text device location =
    codes "{\"device_id\":\"" ++ id_text device
    ++ codes "\",\"vehicle_type\":\"scooter\",\"propulsion_types\":[\"electric\"],\"vehicle_state\":\"available\",\"event_types\":[\"trip_end\"],\"timestamp\":2000,\"location\":"
    ++ location ++ codes "}"

-- the text of a report in the square
abbrev pub in_the_square : List ℕ → List ℕ
in_the_square device = report_text device (codes "{\"lat\":5,\"lng\":5}")

-- rows after one report at 2000: the first device in the square; the second outside it, in the wide area; the second
-- in the square; and the third outside both
abbrev pub first_vehicle : Row
first_vehicle = row_from (first_report 2000) 2000

abbrev pub second_vehicle : Row
second_vehicle = row_from (report_of second_device (east 15 15) 2000) 2000

abbrev pub second_inside : Row
second_inside = row_from (second_report 2000) 2000

abbrev pub far_vehicle : Row
far_vehicle = row_from (report_of third_device (east 25 5) 2000) 2000

-- a second vehicle in the square, which came almost three days later
abbrev pub late_vehicle : Row
late_vehicle = row_from (second_report 259000000) 259000000

-- an operator's rows after a report of one vehicle at 2000, and after reports of two
abbrev pub one_row : Rows
one_row = insert empty first_device first_vehicle

abbrev pub two_rows : Rows
two_rows = insert one_row second_device second_inside

-- another operator's rows after the report of the second vehicle in the square
abbrev pub other_row : Rows
other_row = insert empty second_device second_inside
