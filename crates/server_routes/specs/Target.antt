-- What a path of the public documents asks for (MDS 2.0 Policy and Geography, endpoints).
use Rattle.std.specs.Prelude.{ℕ, List, take, drop, bytes_eq, codes, Option, Some, None, if◌then◌else◌}
use Rattle.std.specs.Option.{option_or}
use Rattle.std.specs.Str.{is_utf8}
use Rattle.uuid.specs.Text.{parsed}
use Rattle.server_routes.specs.declared.public_target.PublicTarget.{PublicTarget}
use Rattle.server_routes.specs.declared.public_target.PublicTarget.TheVariants.{Policies, Policy, Geographies, Geography}

-- the identifier at the end of a path; none where it is none
abbrev pub identifier : List ℕ → Option (List ℕ)
identifier text = if is_utf8 text then parsed text else None

-- a path that asks for one of the lists
abbrev pub list_at : List ℕ → Option PublicTarget
list_at path =
    if bytes_eq path (codes "/mds/2.0/policies") then Some Policies
    else if bytes_eq path (codes "/mds/2.0/geographies") then Some Geographies
    else None

-- a path that asks for one policy
abbrev pub policy_at : List ℕ → Option PublicTarget
policy_at path = if bytes_eq (take 18 path) (codes "/mds/2.0/policies/") then Some (Policy (identifier (drop 18 path))) else None

-- a path that asks for one geography
abbrev pub geography_at : List ℕ → Option PublicTarget
geography_at path = if bytes_eq (take 21 path) (codes "/mds/2.0/geographies/") then Some (Geography (identifier (drop 21 path))) else None

-- What a path asks for; none for any other path.
abbrev pub asked_by : List ℕ → Option PublicTarget
asked_by path = option_or (list_at path) (option_or (policy_at path) (geography_at path))
