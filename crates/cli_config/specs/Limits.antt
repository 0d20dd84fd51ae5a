-- The limit of a configuration that is too low for the vehicles that an operator has held.
use Rattle.std.specs.Prelude.{ℕ, ◌+◌, List, [], ◌∷◌, ◌++◌, bytes_eq, codes, decimal, if◌then◌else◌, Option, Some, None, map, option_map}
use Rattle.uuid.specs.Text.{hyphenated_text, lower}
use Rattle.mds_request.specs.Configuration.{Operator}
use Rattle.cli_config.specs.declared.limits.Bound.{Bound}
use Rattle.cli_config.specs.declared.limits.Limits.{Limits}
use Rattle.cli_config.specs.declared.limits.Low.{Low}
use Rattle.cli_config.specs.Paths.{operator_text}

-- each operator's identifier and limit, in the configuration's order
abbrev pub bounds_in : List Operator → List Bound
bounds_in operators = map (λ o. record { id = o.id; limit = o.limit }) operators

abbrev pub bounds : Limits → List Bound
bounds limits = limits.bounds.items

-- the place and the limit of the operator with this identifier, where the list begins at this place
abbrev pub low_from : ℕ → List ℕ → List Bound → Option Low
low_from place id [] = None
low_from place id (b ∷ bs) = if bytes_eq b.id id then Some (record { place = place; limit = b.limit }) else low_from (place + 1) id bs

abbrev pub limit_wording : Low → List ℕ
limit_wording low = (operator_text low.place ++ codes ".limit: ") ++ decimal low.limit

-- with the operator's identifier as it is written
abbrev pub held_wording : List ℕ → List ℕ
held_wording id = (codes " is too low: operator " ++ id) ++ codes " has held more vehicles"

abbrev pub low_wording : List ℕ → Low → List ℕ
low_wording id low = limit_wording low ++ held_wording id

-- the message where the operator with this identifier has held more vehicles than its limit
abbrev pub low_limit : List Bound → List ℕ → Option (List ℕ)
low_limit bounds id = option_map (low_wording (hyphenated_text lower id)) (low_from 0 id bounds)
