-- The laws of the answers for people.
use Rattle.std.specs.Prelude.{◌≡◌, ℕ, List, map, slice_get, Result, Ok}
use Rattle.mds_catalog.specs.Publication.{Publication, IsWithdrawnFrom}
use Rattle.mds_request.specs.Configuration.{Configuration, ids, read_configuration}
use Rattle.mds_request.specs.declared.config.Actor.TheVariants.{Operator}
use Rattle.server_app.specs.OperatorNames.{Badges, read_badges}
use Rattle.server_app.specs.Whoami.{who_reply}
use Rattle.server_app.specs.Withdrawals.{withdrawn_from}

-- A policy is withdrawn at a moment exactly if that isn't before the moment that is reported.
abbrev pub WithdrawnFromIsRight : Type 0
WithdrawnFromIsRight = (publications : List Publication) (id : List ℕ) → IsWithdrawnFrom publications id (withdrawn_from publications id)

-- these are the names of the configuration's operators, in its order
pub record IsBadged (text : List ℕ) (configuration : Configuration) : Type 0 where
  pub badges : Badges
  pub are_its : read_badges text ≡ Ok badges
  pub each : map (λ b. b.id) badges.operators ≡ ids configuration.operators

-- Each configuration's text can be read for names.
abbrev pub ConfigurationsAreBadged : Type 0
ConfigurationsAreBadged =
    (text : List ℕ) (configuration : Configuration) → read_configuration text ≡ Ok configuration → IsBadged text configuration

-- The answer to an operator about who it is depends on its own identifier and name, and on how far the author sees and
-- the zone, alone, whatever the other operators' names are.
abbrev pub WhoGoesByOwnBadge : Type 0
WhoGoesByOwnBadge =
    (one other : Badges) (place : ℕ) → slice_get one.operators place ≡ slice_get other.operators place → one.oversight ≡ other.oversight → one.zone ≡ other.zone
    → who_reply one (Operator place) ≡ who_reply other (Operator place)
