-- The row's part of a match and the time's part, together; values of values.
use Rattle.std.proofs.Common.{◌≡◌, ℕ, Bool, true, false, ◌&&◌, List, [], ◌∷◌, map, refl, ap}
use Rattle.mds_geometry.specs.declared.position.Position.{Position}
use Rattle.mds_policy.specs.Policy.{Rule}
use Rattle.mds_match.specs.declared.local.Local.{Local}
use Rattle.std.specs.List.{list_any}
use Rattle.mds_match.specs.Matching.{is_evaluated, is_open, contains, shares, empty_or, state_fits, in_place, meets}
use Rattle.mds_match.specs.Row.{Row}
use Rattle.mds_bitmaps.specs.Masks.{is_open_at, matches}

in_other_order : (evaluated active type propulsion state place : Bool)
    → (evaluated && active && type && propulsion && state && place) ≡ (active && (evaluated && place && (type && propulsion && state)))
in_other_order false false type propulsion state place = refl
in_other_order false true type propulsion state place = refl
in_other_order true false type propulsion state place = refl
in_other_order true true false propulsion state false = refl
in_other_order true true false propulsion state true = refl
in_other_order true true true false state false = refl
in_other_order true true true false state true = refl
in_other_order true true true true false false = refl
in_other_order true true true true false true = refl
in_other_order true true true true true false = refl
in_other_order true true true true true true = refl

pub row_and_time : (rule : Rule) (polygons : List ℕ → List (List (List Position))) (row : Row) (local : Local) → meets rule polygons row local ≡ (is_open_at local rule && matches polygons row rule)
row_and_time rule polygons row local =
    in_other_order (is_evaluated rule.kind) (is_open rule.window local) (empty_or rule.vehicle_types (contains rule.vehicle_types row.vehicle_type))
    (empty_or rule.propulsion_types (shares rule.propulsion_types row.propulsion)) (empty_or rule.states (list_any (state_fits row) rule.states))
    (in_place rule.geographies polygons row.position)

pub map-map : {X Y Z : Type 0} (f : Y → Z) (g : X → Y) (xs : List X) → map f (map g xs) ≡ map (λ x. f (g x)) xs
map-map f g [] = refl
map-map f g (x ∷ xs) = ap (λ zs. f (g x) ∷ zs) (map-map f g xs)
