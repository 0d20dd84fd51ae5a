-- The states of the machine in a first session, and its requests: a square and a cap are put and published, and two
-- vehicles are reported in the square.
use Rattle.std.specs.Prelude.{ℕ, List, [], ◌∷◌, ◌++◌, codes}
use Rattle.std.specs.FinMap.{empty, insert}
use Rattle.mds_drafts.specs.Drafts.{Drafts}
use Rattle.mds_request.specs.Reply.{Reply, success}
use Rattle.mds_request.specs.Request.{Request}
use Rattle.mds_request.specs.declared.request.Verb.TheVariants.{Get, Put, Post, Delete}
use Rattle.mds_machine.specs.Step.{State, new_state}
use Rattle.tests_examples_core.specs.Geographies.{square_text, square_document}
use Rattle.tests_examples_core.specs.Ids.{id_text, square_id, cap_id}
use Rattle.tests_examples_core.specs.Policies.{cap, cap_text}
use Rattle.tests_examples_core.specs.Publications.{first_publication, then_withdrawn}
use Rattle.tests_examples_core.specs.Requests.{configuration, request}
use Rattle.tests_examples_core.specs.Vehicles.{in_the_square, one_row, two_rows}

-- the reply with this word as its result
abbrev pub done : List ℕ → Reply
done word = success (codes "{\"result\":\"" ++ word ++ codes "\"}")

-- the reply of a refusal, with this status and code
abbrev pub error : ℕ → List ℕ → Reply
error status code = record { status = status; body = codes "{\"error\":\"" ++ code ++ codes "\"}" }

-- the reply to a compliance question at a moment after so many publications, with these reports
abbrev pub compliance : List ℕ → List ℕ → List ℕ → Reply
compliance at reports revision =
    success (codes "{\"at\":" ++ at ++ codes ",\"policies\":[" ++ reports ++ codes "],\"revision\":" ++ revision ++ codes ",\"version\":2}")

abbrev pub start : State
start = new_state configuration

abbrev pub square_path : List ℕ
square_path = codes "/drafts/geographies/" ++ id_text (codes "101")

abbrev pub put_square : Request
put_square =
    request 1000 (codes "city") Put square_path square_text

abbrev pub square_drafted : Drafts
square_drafted = record { policies = empty; geographies = insert empty square_id square_document }

abbrev pub after_square : State
after_square = record start { drafts = square_drafted }

abbrev pub cap_path : List ℕ
cap_path = codes "/drafts/policies/" ++ id_text (codes "201")

abbrev pub put_cap : Request
put_cap = request 1000 (codes "city") Put cap_path cap_text

abbrev pub both_drafted : Drafts
both_drafted = record { policies = insert empty cap_id cap; geographies = insert empty square_id square_document }

abbrev pub after_cap : State
after_cap = record start { drafts = both_drafted }

abbrev pub publish : Request
publish =
    request 1000 (codes "city") Post (codes "/publish") (codes "{\"geographies\":[\"" ++ id_text (codes "101") ++ codes "\"],\"policies\":[\"" ++ id_text (codes "201") ++ codes "\"]}")

abbrev pub after_publication : State
after_publication = record start { publications = first_publication ∷ [] }

-- the policy is a draft again after its publication, and is then withdrawn
abbrev pub again_drafted : State
again_drafted = record after_publication { drafts = record { policies = insert empty cap_id cap; geographies = empty } }

abbrev pub withdraw_cap : ℕ → Request
withdraw_cap at = request at (codes "city") Post (codes "/publish") (codes "{\"withdraw\":[\"" ++ id_text (codes "201") ++ codes "\"]}")

abbrev pub after_withdrawal : State
after_withdrawal = record again_drafted { publications = then_withdrawn }

-- a report of a vehicle in the square, with the end of its identifier
abbrev pub report : ℕ → List ℕ → Request
report at device = request at (codes "alfa") Post (codes "/fleet/events") (in_the_square device)

abbrev pub after_first_vehicle : State
after_first_vehicle = record after_publication { fleets = one_row ∷ empty ∷ [] }

abbrev pub after_second_vehicle : State
after_second_vehicle = record after_publication { fleets = two_rows ∷ empty ∷ [] }

-- the policy, put at the path of another identifier
abbrev pub put_elsewhere : Request
put_elsewhere = request 1000 (codes "city") Put (codes "/drafts/policies/" ++ id_text (codes "202")) cap_text

-- a publish request for the policy without its geography
abbrev pub publish_alone : Request
publish_alone = request 1000 (codes "city") Post (codes "/publish") (codes "{\"policies\":[\"" ++ id_text (codes "201") ++ codes "\"]}")

abbrev pub remove_first : Request
remove_first = request 2500 (codes "alfa") Delete (codes "/fleet/vehicles/" ++ id_text (codes "401")) []

-- a compliance question at a moment, with this access token
abbrev pub ask : ℕ → List ℕ → Request
ask at token = request at token Get (codes "/compliance") []

-- any other GET request, at 2500
abbrev pub get : List ℕ → List ℕ → Request
get token target = request 2500 token Get target []

-- the text of an operator's vehicles, where the first is all that there are
abbrev pub first_vehicle_text : List ℕ
first_vehicle_text =
    codes "{\"vehicles\":[{\"device_id\":\"" ++ id_text (codes "401")
    ++ codes "\",\"event_types\":[\"trip_end\"],\"location\":{\"lat\":5,\"lng\":5},\"propulsion_types\":[\"electric\"],\"since\":2000,\"timestamp\":2000,\"vehicle_state\":\"available\",\"vehicle_type\":\"scooter\"}]}"
