-- When a rule is open, which vehicles meet it, and the first rule that a vehicle meets (MDS 2.0 Policy, rules, and
-- order of operations).
use Rattle.std.specs.Prelude.{ℕ, ◌+◌, ◌%◌, List, [], ◌∷◌, Bool, true, false, ◌&&◌, ◌||◌, ◌==◌, nat_le, if◌then◌else◌, Option, Some, None, slice_get, bytes_eq, position, filter}
use Rattle.std.specs.List.{list_any}
use Rattle.mds_geometry.specs.declared.position.Position.{Position}
use Rattle.mds_policy.specs.Policy.{States, Rule, Policy}
use Rattle.mds_policy.specs.declared.rule.Kind.{Kind}
use Rattle.mds_policy.specs.declared.rule.Kind.TheVariants.{Other}
use Rattle.mds_policy.specs.declared.rule.Window.{Window}
use Rattle.mds_match.specs.declared.local.Local.{Local}
use Rattle.mds_geometry.specs.Area.{area_holds}
use Rattle.mds_match.specs.Row.{Row}

-- a count rule is evaluated, and so is a time rule in one of the four units; no other rule is
abbrev pub is_evaluated : Kind → Bool
is_evaluated Other = false
is_evaluated kind = true

abbrev pub is_true : Option Bool → Bool
is_true None = false
is_true (Some b) = b

-- whether a weekday, 0 for Sunday, is listed
abbrev pub is_listed : Window → ℕ → Bool
is_listed window day = is_true (slice_get window.days day)

-- the weekday before
abbrev pub day_before : ℕ → ℕ
day_before day = (day + 6) % 7

-- From start to end, both included, on a listed day. With a start after the end: from start to midnight on a listed
-- day, and from midnight to end, included, on the day after a listed one.
abbrev pub is_open : Window → Local → Bool
is_open window local =
    if nat_le window.start window.end
    then is_listed window local.weekday && nat_le window.start local.second && nat_le local.second window.end
    else (is_listed window local.weekday && nat_le window.start local.second) || (is_listed window (day_before local.weekday) && nat_le local.second window.end)

abbrev pub contains : List (List ℕ) → List ℕ → Bool
contains words word = list_any (bytes_eq word) words

-- the lists share a word
abbrev pub shares : List (List ℕ) → List (List ℕ) → Bool
shares words others = list_any (contains others) words

-- an empty list means all
abbrev pub empty_or : {A : Type 0} → List A → Bool → Bool
empty_or [] holds = true
empty_or (x ∷ xs) holds = holds

-- the state is the listed one, and the vehicle's last report has one of the event types listed for it, where any are
abbrev pub state_fits : Row → States → Bool
state_fits row states = bytes_eq states.state row.state && empty_or states.events (shares states.events row.events)

-- one of the rule's geographies holds the position; an empty list holds none
abbrev pub in_place : List (List ℕ) → (List ℕ → List (List (List Position))) → Position → Bool
in_place geographies polygons position = list_any (λ id. area_holds (polygons id) position) geographies

-- A vehicle meets a rule where the rule is evaluated and open, and type, propulsion, state, events and position match.
abbrev pub meets : Rule → (List ℕ → List (List (List Position))) → Row → Local → Bool
meets rule polygons row local =
    is_evaluated rule.kind && is_open rule.window local
    && empty_or rule.vehicle_types (contains rule.vehicle_types row.vehicle_type)
    && empty_or rule.propulsion_types (shares rule.propulsion_types row.propulsion)
    && empty_or rule.states (list_any (state_fits row) rule.states)
    && in_place rule.geographies polygons row.position

-- The first rule of the policy that a vehicle meets, if there is one, is the rule that catches it.
abbrev pub first : Policy → (List ℕ → List (List (List Position))) → Row → Local → Option ℕ
first policy polygons row local = position (λ rule. meets rule polygons row local) policy.rules

-- the rows that a rule catches
abbrev pub is_rule : ℕ → Option ℕ → Bool
is_rule n None = false
is_rule n (Some k) = n == k

abbrev pub caught : Policy → ℕ → (List ℕ → List (List (List Position))) → List Row → Local → List Row
caught policy n polygons rows local = filter (λ row. is_rule n (first policy polygons row local)) rows
