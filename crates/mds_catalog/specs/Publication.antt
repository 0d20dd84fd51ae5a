-- Publications: batches of documents, each published together at one moment, and which policies are in force (MDS 2.0
-- Policy: publication, immutability, superseding by `prev_policies`). That a publication may also withdraw policies is
-- this server's own.
use Rattle.std.specs.Prelude.{◌≡◌, ℕ, ◌+◌, List, [], ◌∷◌, ◌++◌, map, length, find, filter, Bool, true, not, ◌&&◌, ◌||◌, ◌==◌, false, nat_le, nat_lt, if◌then◌else◌, Option, Some, None, is_some, is_none, bytes_eq}
use Rattle.std.specs.List.{flat_map, list_any}
use Rattle.std.specs.Option.{option_or, option_map_or}
use Rattle.std.specs.declared.sync.Arc.{Arc}
use Rattle.std.specs.declared.alloc.Global.{Global}
use Rattle.mds_geometry.specs.declared.position.Position.{Position}
use Rattle.mds_policy.specs.Policy.{Policy, policy_document}
use Rattle.mds_geography.specs.Geography.{Geography, geography_document}
use Rattle.mds_catalog.specs.declared.batch.Batch.{Batch}
use Rattle.mds_catalog.specs.declared.catalogue.TheConstants.{MOST_POLICIES, MOST_GEOGRAPHIES, MOST_PUBLICATIONS}

-- documents that are published, and identifiers of policies that are withdrawn, at one moment
pub record Publication : Type 0 where
  pub moment : ℕ
  pub geographies : List Geography
  pub policies : List Policy
  pub withdrawn : List (List ℕ)

-- the publication that a `Batch` of the program stands for
abbrev pub publication_of : Batch → Publication
publication_of b =
    record {
      moment = b.moment;
      geographies = map (λ share. geography_document share.value) b.geographies.items;
      policies = map (λ share. policy_document share.value) b.policies.items;
      withdrawn = b.withdrawn.items;
    }

-- the publications of shared batches
abbrev pub publications_in : List (Arc Batch Global) → List Publication
publications_in batches = map (λ share. publication_of share.value) batches

-- a document and the moment of its publication
pub record Published (A : Type 0) : Type 0 where
  pub document : A
  pub moment : ℕ

abbrev pub dated : {A : Type 0} → ℕ → A → Published A
dated moment document = record { document = document; moment = moment }

-- all published policies in order: by batch, within a batch as in its list
abbrev pub published_policies : List Publication → List (Published Policy)
published_policies publications = flat_map (λ p. map (dated p.moment) p.policies) publications

-- all published geographies in the same order
abbrev pub published_geographies : List Publication → List (Published Geography)
published_geographies publications = flat_map (λ p. map (dated p.moment) p.geographies) publications

-- the published policy with an identifier
abbrev pub find_policy : List Publication → List ℕ → Option (Published Policy)
find_policy publications id = find (λ p. bytes_eq p.document.id id) (published_policies publications)

-- the published geography with an identifier
abbrev pub find_geography : List Publication → List ℕ → Option (Published Geography)
find_geography publications id = find (λ g. bytes_eq g.document.id id) (published_geographies publications)

-- the polygons of a published geography; none for an identifier that isn't published
abbrev pub published_area : List Publication → List ℕ → List (List (List Position))
published_area publications id = option_map_or (λ g. g.document.polygons) (find_geography publications id) []

-- an identifier is in a list
abbrev pub is_among : List (List ℕ) → List ℕ → Bool
is_among ids id = list_any (λ known. bytes_eq known id) ids

-- a policy is meant for the operators that it names, and for all where it names none (MDS 2.0 Policy, `provider_ids`)
abbrev pub is_meant_for : List ℕ → Policy → Bool
is_meant_for operator policy = (length policy.providers == 0) || is_among policy.providers operator

-- the published policies that are meant for an operator, or all where none is given
abbrev pub policies_for : List Publication → Option (List ℕ) → List (Published Policy)
policies_for publications None = published_policies publications
policies_for publications (Some operator) = filter (λ p. is_meant_for operator p.document) (published_policies publications)

-- a policy is published and has started at a moment
abbrev pub is_effective : ℕ → Published Policy → Bool
is_effective t p = nat_le p.moment t && nat_le p.document.start t

-- a published policy replaces those that it lists from its own publication and start on, whomever it is meant for and
-- whether or not it has ended (MDS 2.0 Policy, `prev_policies`)
abbrev pub supersedes : ℕ → List ℕ → Published Policy → Bool
supersedes t id successor = is_effective t successor && is_among successor.document.previous id

-- a policy with this identifier is superseded at a moment
abbrev pub is_superseded : List Publication → ℕ → List ℕ → Bool
is_superseded publications t id = list_any (supersedes t id) (published_policies publications)

-- a publication withdraws a policy with this identifier, from its own moment on
abbrev pub is_withdrawn : List Publication → ℕ → List ℕ → Bool
is_withdrawn publications t id = list_any (λ p. nat_le p.moment t && is_among p.withdrawn id) publications

-- a policy with this identifier is withdrawn from this moment on, or never
abbrev pub IsWithdrawnFrom : List Publication → List ℕ → Option ℕ → Type 0
IsWithdrawnFrom publications id from = (t : ℕ) → is_withdrawn publications t id ≡ option_map_or (λ moment. nat_le moment t) from false

-- whether a published policy is in force for an operator at a moment
abbrev pub is_in_force : List Publication → List ℕ → ℕ → Published Policy → Bool
is_in_force publications operator t p =
    is_effective t p
    && option_map_or (nat_lt t) p.document.end true
    && is_meant_for operator p.document
    && not (is_superseded publications t p.document.id)
    && not (is_withdrawn publications t p.document.id)

-- the policies in force for an operator at a moment, in the order of publication
abbrev pub in_force : List Publication → List ℕ → ℕ → List (Published Policy)
in_force publications operator t = filter (is_in_force publications operator t) (published_policies publications)

-- no identifier is twice in a list
abbrev pub are_distinct : List (List ℕ) → Bool
are_distinct [] = true
are_distinct (id ∷ ids) = not (is_among ids id) && are_distinct ids

abbrev pub geography_ids : Publication → List (List ℕ)
geography_ids p = map (λ g. g.id) p.geographies

abbrev pub policy_ids : Publication → List (List ℕ)
policy_ids p = map (λ policy. policy.id) p.policies

-- a publication that has no document and withdraws nothing
abbrev pub is_empty : Publication → Bool
is_empty p = (length p.geographies == 0) && (length p.policies == 0) && (length p.withdrawn == 0)

abbrev pub is_geography_published : List Publication → List ℕ → Bool
is_geography_published publications id = is_some (find_geography publications id)

abbrev pub is_policy_published : List Publication → List ℕ → Bool
is_policy_published publications id = is_some (find_policy publications id)

-- the first identifier of a publication that is already published, geographies before policies; a geography may have
-- the identifier of a policy
abbrev pub first_published : List Publication → Publication → Option (List ℕ)
first_published publications p =
    option_or (find (is_geography_published publications) (geography_ids p)) (find (is_policy_published publications) (policy_ids p))

-- a geography is already published, or is in the publication
abbrev pub is_geography_there : List Publication → Publication → List ℕ → Bool
is_geography_there publications p id = is_geography_published publications id || is_among (geography_ids p) id

-- the first geography that a rule names and that is neither, in the order of policies, rules and entries
abbrev pub missing_geography : List Publication → Publication → Option (List ℕ)
missing_geography publications p =
    find (λ id. not (is_geography_there publications p id)) (flat_map (λ policy. flat_map (λ rule. rule.geographies) policy.rules) p.policies)

-- the first of these identifiers with no published policy
abbrev pub first_unpublished : List Publication → List (List ℕ) → Option (List ℕ)
first_unpublished publications ids = find (λ id. not (is_policy_published publications id)) ids

-- the first predecessor that isn't already published; so no policy precedes one of its own batch
abbrev pub missing_predecessor : List Publication → Publication → Option (List ℕ)
missing_predecessor publications p = first_unpublished publications (flat_map (λ policy. policy.previous) p.policies)

-- the publications with a further one stay within the limits
abbrev pub fits : List Publication → Publication → Bool
fits publications p =
    nat_le (length (published_policies publications) + length p.policies) MOST_POLICIES
    && nat_le (length (published_geographies publications) + length p.geographies) MOST_GEOGRAPHIES
    && nat_lt (length publications) MOST_PUBLICATIONS

-- whether a publication may follow: it has a document or withdraws a policy, no identifier is twice in a list, its
-- documents are new, what it refers to and withdraws is there, and it is within the limits
abbrev pub is_lawful : List Publication → Publication → Bool
is_lawful publications p =
    not (is_empty p)
    && are_distinct (geography_ids p)
    && are_distinct (policy_ids p)
    && are_distinct p.withdrawn
    && is_none (first_published publications p)
    && is_none (missing_geography publications p)
    && is_none (missing_predecessor publications p)
    && is_none (first_unpublished publications p.withdrawn)
    && fits publications p

-- the publications after a batch: a lawful one is appended, any other one changes nothing
abbrev pub extended : List Publication → Publication → List Publication
extended publications p = if is_lawful publications p then publications ++ p ∷ [] else publications
