-- Matching vehicles with a policy whose rules are resolved: at one local time, with the areas of their geographies
-- looked up.
use Rattle.std.specs.Prelude.{◌≡◌, ℕ, Bool, false, ◌&&◌, List, Option, bytes_eq, slice_get, position}
use Rattle.std.specs.List.{find, list_any}
use Rattle.std.specs.Option.{option_map_or}
use Rattle.mds_geometry.specs.Area.{area_holds}
use Rattle.mds_geometry.specs.declared.position.Position.{Position}
use Rattle.mds_policy.specs.Policy.{Policy, Rule, States, rule_document}
use Rattle.mds_match.specs.declared.local.Local.{Local}
use Rattle.mds_match.specs.Matching.{contains, shares, empty_or, state_fits, first}
use Rattle.mds_match.specs.Row.{Row}
use Rattle.mds_match.specs.declared.resolved.ResolvedPolicy.{ResolvedPolicy}
use Rattle.mds_match.specs.declared.resolved.ResolvedRule.{ResolvedRule}

-- type, propulsion, state and events match the rule
abbrev pub is_meant : Rule → Row → Bool
is_meant rule row =
    empty_or rule.vehicle_types (contains rule.vehicle_types row.vehicle_type)
    && empty_or rule.propulsion_types (shares rule.propulsion_types row.propulsion)
    && empty_or rule.states (list_any (state_fits row) rule.states)

-- a row meets a resolved rule
abbrev pub resolved_meets : ResolvedRule → Row → Bool
resolved_meets rule row =
    rule.is_open && list_any (λ area. area_holds area.now row.position) rule.areas.items && is_meant (rule_document rule.rule.now) row

-- the first resolved rule that a row meets
abbrev pub first_of : ResolvedPolicy → Row → Option ℕ
first_of policy row = position (λ rule. resolved_meets rule row) policy.rules.items

-- for every row, that is the first rule of the policy that the row meets
abbrev pub Finds : ResolvedPolicy → Policy → (List ℕ → List (List (List Position))) → Local → Type 0
Finds resolved policy polygons local = (row : Row) → first_of resolved row ≡ first policy polygons row local

-- the state is that of the entry, whatever event types the entry lists
abbrev pub names_state : List ℕ → States → Bool
names_state state states = bytes_eq states.state state

-- the rule is for this type and this state
abbrev pub is_for : Rule → List ℕ → List ℕ → Bool
is_for rule vehicle_type state =
    empty_or rule.vehicle_types (contains rule.vehicle_types vehicle_type) && empty_or rule.states (list_any (names_state state) rule.states)

-- vehicles of a type in a state can meet a resolved rule
abbrev pub can_meet : ResolvedRule → List ℕ → List ℕ → Bool
can_meet rule vehicle_type state = rule.is_open && is_for (rule_document rule.rule.now) vehicle_type state

-- a row meets the rule at this index, where there is one
abbrev pub meets_number : ResolvedPolicy → Row → ℕ → Bool
meets_number policy row number = option_map_or (λ rule. resolved_meets rule row) (slice_get policy.rules.items number) false

-- the first of these indices whose rule a row meets
abbrev pub first_among : ResolvedPolicy → List ℕ → Row → Option ℕ
first_among policy numbers row = find (meets_number policy row) numbers

-- for every row of this type in this state, the first rule that it meets is the first among these indices
abbrev pub Suffices : ResolvedPolicy → List ℕ → List ℕ → List ℕ → Type 0
Suffices policy vehicle_type state numbers =
    (row : Row) → row.vehicle_type ≡ vehicle_type → row.state ≡ state → first_among policy numbers row ≡ first_of policy row
