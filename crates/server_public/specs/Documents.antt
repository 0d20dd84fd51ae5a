-- The public documents: the policies that are meant for everyone (MDS 2.0 Policy, `provider_ids`), and the geographies
-- that these name.
use Rattle.std.specs.Prelude.{ℕ, ◌==◌, List, [], ◌∷◌, map, filter, length, max, Bool, Option, Some, None}
use Rattle.std.specs.List.{list_any}
use Rattle.std.specs.Option.{option_map_or}
use Rattle.mds_text.specs.Printed.{printed}
use Rattle.mds_policy.specs.Policy.{Policy}
use Rattle.mds_geography.specs.Geography.{Geography}
use Rattle.mds_geography.specs.Served as geography
use Rattle.mds_catalog.specs.Publication.{Publication, Published, is_among, published_geographies, published_policies}
use Rattle.server_public.specs.Withdrawal.{end_of, policy_json, withdrawn_from}

-- a policy that is meant for everyone: it names no operator
abbrev pub is_public : Published Policy → Bool
is_public p = length p.document.providers == 0

abbrev pub public_policies : List Publication → List (Published Policy)
public_policies publications = filter is_public (published_policies publications)

-- a rule of a policy names the geography of this identifier
abbrev pub names : List ℕ → Published Policy → Bool
names id p = list_any (λ rule. is_among rule.geographies id) p.document.rules

-- the geographies that policies which are meant for everyone name; no other geography is public
abbrev pub public_geographies : List Publication → List (Published Geography)
public_geographies publications =
    filter (λ g. list_any (names g.document.id) (public_policies publications)) (published_geographies publications)

-- a public document, with when it takes effect and when it ends
pub record Notice : Type 0 where
  pub id : List ℕ
  pub start : ℕ
  pub end : Option ℕ
  pub text : List ℕ

abbrev pub policy_notice : List Publication → Published Policy → Notice
policy_notice publications p =
    record { id = p.document.id; start = p.document.start; end = end_of publications p; text = printed (policy_json publications p) }

abbrev pub geography_notice : Published Geography → Notice
geography_notice g =
    record { id = g.document.id; start = g.moment; end = None; text = printed (geography.served g.document (Some g.moment)) }

-- when a policy was published, or withdrawn if that was later
abbrev pub touched : List Publication → Published Policy → ℕ
touched publications p = option_map_or (max p.moment) (withdrawn_from publications p.document.id) p.moment

-- the latest of a moment and some more
abbrev pub last : ℕ → List ℕ → ℕ
last t [] = t
last t (later ∷ ts) = last (max later t) ts

-- the public documents, and when they changed last
pub record Face : Type 0 where
  pub policies : List Notice
  pub geographies : List Notice
  pub updated : ℕ

abbrev pub face_of : List Publication → Face
face_of publications =
    record {
      policies = map (policy_notice publications) (public_policies publications);
      geographies = map geography_notice (public_geographies publications);
      updated = last 0 (map (touched publications) (public_policies publications));
    }
