-- The bodies of successes: JSON objects with their members' names in byte order.
use Rattle.std.specs.Prelude.{ℕ, pos, List, [], ◌∷◌, map, codes}
use Rattle.mds_text.specs.Tree.{Json, int, text, degrees, list, object, items_of, members_of}
use Rattle.mds_match.specs.Row.{Row}
use Rattle.mds_verdict.specs.Verdict.{printed_id}

-- a list of values
abbrev pub list_json : List Json → Json
list_json values = list (items_of values)

-- words, each as a JSON text
abbrev pub words_json : List (List ℕ) → Json
words_json words = list_json (map text words)

-- a whole number that isn't negative
abbrev pub number_json : ℕ → Json
number_json n = int (pos n)

-- the result of a report or of a put
abbrev pub result_json : List ℕ → Json
result_json word = object (members_of ((codes "result", text word) ∷ []))

-- the identifier of what was removed
abbrev pub removed_json : List ℕ → Json
removed_json id = object (members_of ((codes "removed", printed_id id) ∷ []))

-- a draft, as it is served
abbrev pub draft_json : Json → Json
draft_json served = object (members_of ((codes "draft", served) ∷ []))

-- a publication at a moment, and the number of publications then
abbrev pub published_json : ℕ → ℕ → Json
published_json t revision =
    object (members_of ((codes "published_date", number_json t) ∷ (codes "revision", number_json revision) ∷ []))

-- something published, under its name, and the number of publications
abbrev pub revised_json : List ℕ → Json → ℕ → Json
revised_json name value revision = object (members_of ((name, value) ∷ (codes "revision", number_json revision) ∷ []))

-- a result at a moment, under its name
abbrev pub compliance_json : ℕ → List ℕ → Json → ℕ → Json
compliance_json t name value revision =
    object (members_of ((codes "at", number_json t) ∷ (name, value) ∷ (codes "revision", number_json revision) ∷ (codes "version", number_json 2) ∷ []))

-- where a vehicle is, in degrees
abbrev pub location_json : Row → Json
location_json row =
    object (members_of ((codes "lat", degrees row.position.lat) ∷ (codes "lng", degrees row.position.lng) ∷ []))

-- a vehicle as its operator sees it
abbrev pub vehicle_json : Row → Json
vehicle_json row =
    object (members_of ((codes "device_id", printed_id row.device)
    ∷ (codes "event_types", words_json row.events)
    ∷ (codes "location", location_json row)
    ∷ (codes "propulsion_types", words_json row.propulsion)
    ∷ (codes "since", number_json row.since)
    ∷ (codes "timestamp", number_json row.timestamp)
    ∷ (codes "vehicle_state", text row.state)
    ∷ (codes "vehicle_type", text row.vehicle_type)
    ∷ []))

-- an operator's vehicles
abbrev pub vehicles_json : List Row → Json
vehicles_json rows = object (members_of ((codes "vehicles", list_json (map vehicle_json rows)) ∷ []))
