-- The index that a catalogue has next to its publications.
use Rattle.std.specs.Prelude.{◌≡◌, ℕ, ◌≤◌, List, [], ◌∷◌, map, length, find, Bool, false, nat_le, min, max, Option, Some, None, option_map, if◌then◌else◌}
use Rattle.std.specs.Option.{option_map_or}
use Rattle.mds_policy.specs.Policy.{Policy}
use Rattle.mds_catalog.specs.declared.catalogue.TheConstants.{MOST_POLICIES, MOST_GEOGRAPHIES, MOST_PUBLICATIONS}
use Rattle.mds_catalog.specs.declared.document_index.DocumentSpot.{DocumentSpot}
use Rattle.mds_catalog.specs.declared.policy_index.PolicyEntry.{PolicyEntry}
use Rattle.mds_catalog.specs.Publication.{Publication, published_policies, published_geographies, policy_ids, geography_ids, is_among, is_superseded, is_withdrawn}
use Rattle.mds_catalog.specs.Listed.{Ascends, has, spots_in}

-- the entry of a newly published policy
abbrev pub fresh : DocumentSpot → PolicyEntry
fresh spot = record { spot = spot; superseded = None; withdrawn = None }

-- a known moment isn't after t
abbrev pub has_come : ℕ → Option ℕ → Bool
has_come t known = option_map_or (λ least. nat_le least t) known false

-- an entry after a policy replaces those with these identifiers from a moment on
abbrev pub after_superseding : ℕ → List (List ℕ) → PolicyEntry → PolicyEntry
after_superseding moment ids e = if is_among ids e.spot.id then record e { superseded = Some (option_map_or (min moment) e.superseded moment) } else e

-- an entry after a publication at this moment withdraws the policies with these identifiers
abbrev pub after_withdrawal : ℕ → List (List ℕ) → PolicyEntry → PolicyEntry
after_withdrawal moment ids e = if is_among ids e.spot.id then record e { withdrawn = Some (option_map_or (min moment) e.withdrawn moment) } else e

-- entries after policies are published at this moment: each replaces its predecessors from its publication and its
-- start on
abbrev pub after_successors : ℕ → List Policy → List PolicyEntry → List PolicyEntry
after_successors moment [] entries = entries
after_successors moment (p ∷ ps) entries = after_successors moment ps (map (after_superseding (max moment p.start) p.previous) entries)

-- The invariant of the index: where each policy and each geography is, by identifier; from when on each policy is
-- superseded and withdrawn; how many of each are published; all within the limits.
pub record IsKept (publications : List Publication) (policies : List PolicyEntry) (geographies : List DocumentSpot) (policy_count geography_count : ℕ) : Type 0 where
  pub policies_ascend : Ascends (λ e. e.spot.id) policies
  pub policies_found : (id : List ℕ) → option_map (λ e. e.spot) (find (has (λ e. e.spot.id) id) policies) ≡ find (has (λ s. s.id) id) (spots_in policy_ids 0 publications)
  pub superseded : (t : ℕ) (id : List ℕ) → option_map_or (λ e. has_come t e.superseded) (find (has (λ e. e.spot.id) id) policies) false ≡ is_superseded publications t id
  pub withdrawn : (t : ℕ) (id : List ℕ) → option_map_or (λ e. has_come t e.withdrawn) (find (has (λ e. e.spot.id) id) policies) false ≡ is_withdrawn publications t id
  pub geographies_ascend : Ascends (λ s. s.id) geographies
  pub geographies_found : (id : List ℕ) → find (has (λ s. s.id) id) geographies ≡ find (has (λ s. s.id) id) (spots_in geography_ids 0 publications)
  pub policies_counted : policy_count ≡ length (published_policies publications)
  pub geographies_counted : geography_count ≡ length (published_geographies publications)
  pub few_policies : length policies ≤ policy_count
  pub few_geographies : length geographies ≤ geography_count
  pub most_policies : policy_count ≤ MOST_POLICIES
  pub most_geographies : geography_count ≤ MOST_GEOGRAPHIES
  pub few_publications : length publications ≤ MOST_PUBLICATIONS
