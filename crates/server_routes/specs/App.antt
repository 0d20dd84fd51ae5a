-- The calls outside the protocol's, at paths that no route has.
use Rattle.std.specs.Prelude.{ℕ, List, Bool, ◌&&◌, not, bytes_eq, codes, length, take, drop, if◌then◌else◌, Option, Some, None, option_map, Result, Ok, Err}
use Rattle.std.specs.List.{list_any}
use Rattle.std.specs.Option.{option_or}
use Rattle.mds_request.specs.Call.{is_empty, is_slash, is_verb, path_of}
use Rattle.mds_request.specs.Request.{Request}
use Rattle.mds_request.specs.declared.code.Code.{Code}
use Rattle.mds_request.specs.declared.code.Code.TheVariants.{Method}
use Rattle.mds_request.specs.declared.request.Verb.{Verb}
use Rattle.mds_request.specs.declared.request.Verb.TheVariants.{Get, Post}
use Rattle.server_routes.specs.declared.app.AppCall.{AppCall}
use Rattle.server_routes.specs.declared.app.AppCall.TheVariants.{Events, Fleet, FleetOf, NoOperator, Told}
use Rattle.server_routes.specs.declared.app.FleetView.{FleetView}
use Rattle.server_routes.specs.declared.app.FleetView.TheVariants.{Compliance, Vehicles}
use Rattle.server_routes.specs.declared.app.Question.TheVariants.{Whoami, Withdrawals, Drafts}
use Rattle.server_routes.specs.Target.{identifier}

-- the paths of these calls
abbrev pub events_path : List ℕ
events_path = codes "/app/fleet/events"

abbrev pub whoami_path : List ℕ
whoami_path = codes "/app/whoami"

abbrev pub withdrawals_path : List ℕ
withdrawals_path = codes "/app/withdrawals"

abbrev pub drafts_path : List ℕ
drafts_path = codes "/app/drafts"

abbrev pub compliance_path : List ℕ
compliance_path = codes "/app/compliance"

abbrev pub fleet_path : List ℕ
fleet_path = codes "/app/fleet"

-- a segment of a path: it isn't empty and has no slash (RFC 3986, section 3.3)
abbrev pub is_segment : List ℕ → Bool
is_segment text = not (is_empty text) && not (list_any is_slash text)

-- the segment behind this folder of so many bytes, where the path has just one there
abbrev pub segment_in : ℕ → List ℕ → List ℕ → Option (List ℕ)
segment_in size folder path =
    if bytes_eq (take size path) folder && is_segment (drop size path) then Some (drop size path) else None

-- one operator's fleet, where there is an identifier
abbrev pub fleet_call : FleetView → Option (List ℕ) → AppCall
fleet_call view (Some id) = FleetOf view id
fleet_call view None = NoOperator

-- by the identifier at the end of the path
abbrev pub fleet_of : FleetView → ℕ → List ℕ → List ℕ → Option AppCall
fleet_of view size folder path = option_map (λ segment. fleet_call view (identifier segment)) (segment_in size folder path)

abbrev pub one_fleet_at : List ℕ → Option AppCall
one_fleet_at path = option_or (fleet_of Compliance 16 (codes "/app/compliance/") path) (fleet_of Vehicles 11 (codes "/app/fleet/") path)

-- what desks tell of fleets, at this path
abbrev pub fleet_at : List ℕ → Option AppCall
fleet_at path =
    if bytes_eq path compliance_path then Some (Fleet Compliance)
    else if bytes_eq path fleet_path then Some (Fleet Vehicles)
    else one_fleet_at path

-- the call at this path; none at the paths of the protocol
abbrev pub call_at : List ℕ → Option AppCall
call_at path =
    if bytes_eq path events_path then Some Events
    else if bytes_eq path whoami_path then Some (Told Whoami)
    else if bytes_eq path withdrawals_path then Some (Told Withdrawals)
    else if bytes_eq path drafts_path then Some (Told Drafts)
    else fleet_at path

-- many reports are sent by POST, and all else is read by GET
abbrev pub verb_for : AppCall → Verb
verb_for Events = Post
verb_for (Told question) = Get
verb_for (Fleet view) = Get
verb_for (FleetOf view id) = Get
verb_for NoOperator = Get

-- the call by this method, or that its path hasn't the method
abbrev pub by_verb : Verb → AppCall → Result AppCall Code
by_verb verb call = if is_verb (verb_for call) verb then Ok call else Err Method

abbrev pub app_at : Verb → List ℕ → Option (Result AppCall Code)
app_at verb path = option_map (by_verb verb) (call_at path)

abbrev pub app_of : Request → Option (Result AppCall Code)
app_of request = app_at request.verb (path_of request.target)
