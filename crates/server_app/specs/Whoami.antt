-- The answer about who the client is. The members of each object are in the byte order of their
-- names.
use Rattle.std.specs.Prelude.{ℕ, List, [], ◌∷◌, ◌++◌, map, codes, Option, Some, None, slice_get}
use Rattle.std.specs.Option.{option_map_or}
use Rattle.mds_text.specs.Tree.{Json, text, object, members_of}
use Rattle.mds_verdict.specs.Verdict.{printed_id}
use Rattle.mds_request.specs.Reply.{Reply, refused}
use Rattle.mds_request.specs.declared.code.Code.TheVariants.{Token}
use Rattle.mds_request.specs.declared.config.Actor.{Actor}
use Rattle.mds_request.specs.declared.config.Actor.TheVariants.{Author, Operator, Nobody}
use Rattle.mds_machine.specs.Answer.{told}
use Rattle.mds_machine.specs.Bodies.{list_json}
use Rattle.server_app.specs.declared.oversight.Oversight.{Oversight}
use Rattle.server_app.specs.OperatorNames.{Badge, Badges}
use Rattle.server_app.specs.Oversight.{oversight_word}

-- a name, where there is one
abbrev pub name_members : Option (List ℕ) → List (List ℕ × Json)
name_members None = []
name_members (Some name) = (codes "name", text name) ∷ []

-- an operator's identifier, and its name where it has one
abbrev pub badge_members : Badge → List (List ℕ × Json)
badge_members badge = (codes "id", printed_id badge.id) ∷ name_members badge.name

abbrev pub badge_json : Badge → Json
badge_json badge = object (members_of (badge_members badge))

-- how far the author sees how each operator stands, the client's role, and the zone in which rules are open
abbrev pub role_members : Oversight → List ℕ → List ℕ → List (List ℕ × Json)
role_members oversight role zone =
    (codes "oversight", text (oversight_word oversight)) ∷ (codes "role", text role) ∷ (codes "zone", text zone) ∷ []

-- an operator, for itself
abbrev pub operator_json : Oversight → List ℕ → Badge → Json
operator_json oversight zone badge = object (members_of (badge_members badge ++ role_members oversight (codes "operator") zone))

-- the author, with all operators
abbrev pub author_json : Badges → Json
author_json badges =
    object (members_of ((codes "operators", list_json (map badge_json badges.operators)) ∷ role_members badges.oversight (codes "author") badges.zone))

-- the reply to the operator with this identifier and name; a refusal where there is none
abbrev pub told_operator : Oversight → List ℕ → Option Badge → Reply
told_operator oversight zone badge = option_map_or (λ b. told (operator_json oversight zone b)) badge (refused Token)

-- Who the client is. It depends on the configuration's text and on the client, and on nothing else.
abbrev pub who_reply : Badges → Actor → Reply
who_reply badges Author = told (author_json badges)
who_reply badges (Operator place) = told_operator badges.oversight badges.zone (slice_get badges.operators place)
who_reply badges Nobody = refused Token
