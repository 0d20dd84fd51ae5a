-- The answers about published documents: the author sees all of them, an operator the policies that are meant for it
-- (MDS 2.0 Policy and Geography). A reader is an operator's identifier, or none for the author.
use Rattle.std.specs.Prelude.{ℕ, List, map, length, codes, Bool, true, Option, Some, Result, Ok}
use Rattle.std.specs.Option.{option_map_or}
use Rattle.mds_text.specs.Tree.{Json}
use Rattle.mds_policy.specs.Policy.{Policy}
use Rattle.mds_policy.specs.Served as policy
use Rattle.mds_geography.specs.Geography.{Geography}
use Rattle.mds_geography.specs.Served as geography
use Rattle.mds_catalog.specs.Publication.{Publication, Published, policies_for, published_geographies, find_policy, find_geography, is_meant_for}
use Rattle.mds_request.specs.Reply.{Reply}
use Rattle.mds_request.specs.declared.code.Code.{Code}
use Rattle.mds_request.specs.declared.code.Code.TheVariants.{NotFound}
use Rattle.mds_machine.specs.Answer.{told, or_code, if_it, ◌>>=◌}
use Rattle.mds_machine.specs.Bodies.{list_json, revised_json}

-- a published policy, with the moment of its publication
abbrev pub policy_json : Published Policy → Json
policy_json p = policy.served p.document (Some p.moment)

-- a published geography, with the moment of its publication
abbrev pub geography_json : Published Geography → Json
geography_json g = geography.served g.document (Some g.moment)

-- the policies that are visible to the reader, in order of publication
abbrev pub policies_reply : List Publication → Option (List ℕ) → Reply
policies_reply publications reader =
    told (revised_json (codes "policies") (list_json (map policy_json (policies_for publications reader))) (length publications))

-- whether a policy is visible to the reader
abbrev pub is_shown : Option (List ℕ) → Published Policy → Bool
is_shown reader p = option_map_or (λ operator. is_meant_for operator p.document) reader true

-- one such policy
abbrev pub policy_answer : List Publication → Option (List ℕ) → List ℕ → Result Reply Code
policy_answer publications reader id = do
  found ← or_code NotFound (find_policy publications id)
  shown ← if_it NotFound (is_shown reader) found
  Ok (told (revised_json (codes "policy") (policy_json shown) (length publications)))

-- all geographies, in order of publication
abbrev pub geographies_reply : List Publication → Reply
geographies_reply publications =
    told (revised_json (codes "geographies") (list_json (map geography_json (published_geographies publications))) (length publications))

-- one such geography
abbrev pub geography_answer : List Publication → List ℕ → Result Reply Code
geography_answer publications id = do
  found ← or_code NotFound (find_geography publications id)
  Ok (told (revised_json (codes "geography") (geography_json found) (length publications)))
