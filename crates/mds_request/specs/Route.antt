-- Where the program's router leads.
use Rattle.std.specs.Prelude.{◌≡◌, ℕ, List, [], ◌∷◌, length, codes, Option, Some, None, unwrap_or, Result, Ok, Err}
use denote.Ref.{Bor}
use Rattle.std.specs.Str.{IsUtf8}
use Rattle.matchit.specs.Params.{AllText, named, walk}
use Rattle.matchit.specs.Router.{RouteOf}
use Rattle.matchit.specs.Rows.{RowsOf}
use Rattle.matchit.specs.Seek.{first}
use Rattle.mds_request.specs.Call.{rows_at, segments_in}
use Rattle.mds_request.specs.declared.code.Code.{Code}
use Rattle.mds_request.specs.declared.code.Code.TheVariants.{NoRoute}
use Rattle.mds_request.specs.declared.routes.Route.{Route}
use Rattle.mds_request.specs.declared.routes.Route.TheVariants.{Policies, Policy, Geographies, Geography, FleetEvents, FleetVehicles, FleetVehicle, Compliance, PolicyCompliance, PolicyDraft, GeographyDraft, Publish}

-- the segments of a route's path, with this identifier
abbrev pub spelled : Route → List ℕ → List (List ℕ)
spelled Policies id = codes "policies" ∷ []
spelled Policy id = codes "policies" ∷ id ∷ []
spelled Geographies id = codes "geographies" ∷ []
spelled Geography id = codes "geographies" ∷ id ∷ []
spelled FleetEvents id = codes "fleet" ∷ codes "events" ∷ []
spelled FleetVehicles id = codes "fleet" ∷ codes "vehicles" ∷ []
spelled FleetVehicle id = codes "fleet" ∷ codes "vehicles" ∷ id ∷ []
spelled Compliance id = codes "compliance" ∷ []
spelled PolicyCompliance id = codes "compliance" ∷ id ∷ []
spelled PolicyDraft id = codes "drafts" ∷ codes "policies" ∷ id ∷ []
spelled GeographyDraft id = codes "drafts" ∷ codes "geographies" ∷ id ∷ []
spelled Publish id = codes "publish" ∷ []

-- what the parameters of a route match in a path
abbrev pub taken : RouteOf Route → List ℕ → List (List ℕ × List ℕ)
taken route path = walk route.pattern route.text path route.names 0 0

-- A path leads to a route, with its identifier, exactly where the table has a row.
abbrev pub Leads : List ℕ → Option (RouteOf Route) → Type 0
Leads path None = rows_at (segments_in path) ≡ []
Leads path (Some route) =
    AllText (taken route path)
    × (spelled route.value (unwrap_or (named (codes "id") (taken route path)) []) ≡ segments_in path)

abbrev pub AllLead : RowsOf (RouteOf Route) → Type 0
AllLead routes = (path : List ℕ) → IsUtf8 path → Leads path (first routes path)

-- the same of the result
abbrev pub Finds : List (List ℕ) → Result (Route × Bor (List ℕ)) Code → Type 0
Finds segments (Ok found) = spelled found.0 found.1.now ≡ segments
Finds segments (Err code) = (code ≡ NoRoute) × (length (rows_at segments) ≡ 0)
