-- What each insertion of a route makes of the router.
use Rattle.std.proofs.Common.{◌≡◌, List, ℕ, [], codes, ap, sym, ◌∙◌, subst, Ok}
use Rattle.matchit.proofs.OnLiterals.{matchit_on_literals}
use Rattle.matchit.specs.Order.{placed}
use Rattle.matchit.specs.Route.{parse_route}
use Rattle.matchit.specs.Router.{InsertsRead, RouteOf}
use Rattle.matchit.specs.Rows.{RowsOf}
use Rattle.mds_request.specs.Route.{AllLead}
use Rattle.mds_request.specs.declared.routes.Route.{Route}
use Rattle.mds_request.specs.declared.routes.Route.TheVariants.{Policies, Policy, Geographies, Geography, FleetEvents, FleetVehicles, FleetVehicle, Compliance, PolicyCompliance, PolicyDraft, GeographyDraft, Publish}
use Rattle.mds_request.proofs.Routed.{fixed, by_id, rows, all_lead}

abbrev pub Table : Type 0
Table = RowsOf (RouteOf Route)

abbrev pub Adds : List ℕ → Route → Table → Table → Type 0
Adds text route old new = InsertsRead (parse_route text) route old new (Ok tt)

policies_added : (old new : Table) → Adds (codes "/policies") Policies old new → new ≡ placed (fixed Policies) old
unfolding matchit_on_literals
policies_added old new h = h.1

policy_added : (old new : Table) → Adds (codes "/policies/{id}") Policy old new → new ≡ placed (by_id Policy) old
unfolding matchit_on_literals
policy_added old new h = h.1

geographies_added : (old new : Table) → Adds (codes "/geographies") Geographies old new → new ≡ placed (fixed Geographies) old
unfolding matchit_on_literals
geographies_added old new h = h.1

geography_added : (old new : Table) → Adds (codes "/geographies/{id}") Geography old new → new ≡ placed (by_id Geography) old
unfolding matchit_on_literals
geography_added old new h = h.1

fleet_events_added : (old new : Table) → Adds (codes "/fleet/events") FleetEvents old new → new ≡ placed (fixed FleetEvents) old
unfolding matchit_on_literals
fleet_events_added old new h = h.1

fleet_vehicles_added : (old new : Table) → Adds (codes "/fleet/vehicles") FleetVehicles old new → new ≡ placed (fixed FleetVehicles) old
unfolding matchit_on_literals
fleet_vehicles_added old new h = h.1

fleet_vehicle_added : (old new : Table) → Adds (codes "/fleet/vehicles/{id}") FleetVehicle old new → new ≡ placed (by_id FleetVehicle) old
unfolding matchit_on_literals
fleet_vehicle_added old new h = h.1

compliance_added : (old new : Table) → Adds (codes "/compliance") Compliance old new → new ≡ placed (fixed Compliance) old
unfolding matchit_on_literals
compliance_added old new h = h.1

policy_compliance_added : (old new : Table) → Adds (codes "/compliance/{id}") PolicyCompliance old new → new ≡ placed (by_id PolicyCompliance) old
unfolding matchit_on_literals
policy_compliance_added old new h = h.1

policy_draft_added : (old new : Table) → Adds (codes "/drafts/policies/{id}") PolicyDraft old new → new ≡ placed (by_id PolicyDraft) old
unfolding matchit_on_literals
policy_draft_added old new h = h.1

geography_draft_added : (old new : Table) → Adds (codes "/drafts/geographies/{id}") GeographyDraft old new → new ≡ placed (by_id GeographyDraft) old
unfolding matchit_on_literals
geography_draft_added old new h = h.1

publish_added : (old new : Table) → Adds (codes "/publish") Publish old new → new ≡ placed (fixed Publish) old
unfolding matchit_on_literals
publish_added old new h = h.1

-- the table after all insertions
pub built : (r0 r1 r2 r3 r4 r5 r6 r7 r8 r9 r10 r11 r12 : Table) → r0 ≡ [] → Adds (codes "/policies") Policies r0 r1 → Adds (codes "/policies/{id}") Policy r1 r2 → Adds (codes "/geographies") Geographies r2 r3 → Adds (codes "/geographies/{id}") Geography r3 r4 → Adds (codes "/fleet/events") FleetEvents r4 r5 → Adds (codes "/fleet/vehicles") FleetVehicles r5 r6 → Adds (codes "/fleet/vehicles/{id}") FleetVehicle r6 r7 → Adds (codes "/compliance") Compliance r7 r8 → Adds (codes "/compliance/{id}") PolicyCompliance r8 r9 → Adds (codes "/drafts/policies/{id}") PolicyDraft r9 r10 → Adds (codes "/drafts/geographies/{id}") GeographyDraft r10 r11 → Adds (codes "/publish") Publish r11 r12 → ∥ AllLead r12 ∥₁
built r0 r1 r2 r3 r4 r5 r6 r7 r8 r9 r10 r11 r12 h0 h1 h2 h3 h4 h5 h6 h7 h8 h9 h10 h11 h12 =
    let e1 : r1 ≡ placed (fixed Policies) ([]) = policies_added r0 r1 h1 ∙ ap (placed (fixed Policies)) h0 in
    let e2 : r2 ≡ placed (by_id Policy) (placed (fixed Policies) ([])) = policy_added r1 r2 h2 ∙ ap (placed (by_id Policy)) e1 in
    let e3 : r3 ≡ placed (fixed Geographies) (placed (by_id Policy) (placed (fixed Policies) ([]))) = geographies_added r2 r3 h3 ∙ ap (placed (fixed Geographies)) e2 in
    let e4 : r4 ≡ placed (by_id Geography) (placed (fixed Geographies) (placed (by_id Policy) (placed (fixed Policies) ([])))) = geography_added r3 r4 h4 ∙ ap (placed (by_id Geography)) e3 in
    let e5 : r5 ≡ placed (fixed FleetEvents) (placed (by_id Geography) (placed (fixed Geographies) (placed (by_id Policy) (placed (fixed Policies) ([]))))) = fleet_events_added r4 r5 h5 ∙ ap (placed (fixed FleetEvents)) e4 in
    let e6 : r6 ≡ placed (fixed FleetVehicles) (placed (fixed FleetEvents) (placed (by_id Geography) (placed (fixed Geographies) (placed (by_id Policy) (placed (fixed Policies) ([])))))) = fleet_vehicles_added r5 r6 h6 ∙ ap (placed (fixed FleetVehicles)) e5 in
    let e7 : r7 ≡ placed (by_id FleetVehicle) (placed (fixed FleetVehicles) (placed (fixed FleetEvents) (placed (by_id Geography) (placed (fixed Geographies) (placed (by_id Policy) (placed (fixed Policies) ([]))))))) = fleet_vehicle_added r6 r7 h7 ∙ ap (placed (by_id FleetVehicle)) e6 in
    let e8 : r8 ≡ placed (fixed Compliance) (placed (by_id FleetVehicle) (placed (fixed FleetVehicles) (placed (fixed FleetEvents) (placed (by_id Geography) (placed (fixed Geographies) (placed (by_id Policy) (placed (fixed Policies) ([])))))))) = compliance_added r7 r8 h8 ∙ ap (placed (fixed Compliance)) e7 in
    let e9 : r9 ≡ placed (by_id PolicyCompliance) (placed (fixed Compliance) (placed (by_id FleetVehicle) (placed (fixed FleetVehicles) (placed (fixed FleetEvents) (placed (by_id Geography) (placed (fixed Geographies) (placed (by_id Policy) (placed (fixed Policies) ([]))))))))) = policy_compliance_added r8 r9 h9 ∙ ap (placed (by_id PolicyCompliance)) e8 in
    let e10 : r10 ≡ placed (by_id PolicyDraft) (placed (by_id PolicyCompliance) (placed (fixed Compliance) (placed (by_id FleetVehicle) (placed (fixed FleetVehicles) (placed (fixed FleetEvents) (placed (by_id Geography) (placed (fixed Geographies) (placed (by_id Policy) (placed (fixed Policies) ([])))))))))) = policy_draft_added r9 r10 h10 ∙ ap (placed (by_id PolicyDraft)) e9 in
    let e11 : r11 ≡ placed (by_id GeographyDraft) (placed (by_id PolicyDraft) (placed (by_id PolicyCompliance) (placed (fixed Compliance) (placed (by_id FleetVehicle) (placed (fixed FleetVehicles) (placed (fixed FleetEvents) (placed (by_id Geography) (placed (fixed Geographies) (placed (by_id Policy) (placed (fixed Policies) ([]))))))))))) = geography_draft_added r10 r11 h11 ∙ ap (placed (by_id GeographyDraft)) e10 in
    let e12 : r12 ≡ placed (fixed Publish) (placed (by_id GeographyDraft) (placed (by_id PolicyDraft) (placed (by_id PolicyCompliance) (placed (fixed Compliance) (placed (by_id FleetVehicle) (placed (fixed FleetVehicles) (placed (fixed FleetEvents) (placed (by_id Geography) (placed (fixed Geographies) (placed (by_id Policy) (placed (fixed Policies) ([])))))))))))) = publish_added r11 r12 h12 ∙ ap (placed (fixed Publish)) e11 in
    let e : r12 ≡ rows = e12 in
    ∣ subst AllLead (sym e) all_lead ∣₁
