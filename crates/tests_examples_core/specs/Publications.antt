-- Publications: of a policy, of one that supersedes it, and of its withdrawal.
use Rattle.std.specs.Prelude.{ℕ, List, [], ◌∷◌, map, Option}
use Rattle.mds_catalog.specs.Publication.{Publication, Published, in_force}
use Rattle.mds_policy.specs.Policy.{Policy}
use Rattle.tests_examples_core.specs.Geographies.{square_document}
use Rattle.tests_examples_core.specs.Ids.{id, cap_id, next_id}
use Rattle.tests_examples_core.specs.Policies.{cap}

abbrev pub first_operator : List ℕ
first_operator = id 0 161

abbrev pub second_operator : List ℕ
second_operator = id 0 177

-- a policy that supersedes the cap, from a start to an end, for some operators or for all
abbrev pub next_policy : ℕ → Option ℕ → List (List ℕ) → Policy
next_policy start end providers =
    record cap { id = next_id; start = start; end = end; providers = providers; previous = cap_id ∷ [] }

-- a publication of these policies alone
abbrev pub publication : ℕ → List Policy → Publication
publication moment policies = record { moment = moment; geographies = []; policies = policies; withdrawn = [] }

-- the square and the cap at 1000
abbrev pub first_publication : Publication
first_publication = record { moment = 1000; geographies = square_document ∷ []; policies = cap ∷ []; withdrawn = [] }

-- a publication that withdraws a policy alone
abbrev pub withdrawal : ℕ → List ℕ → Publication
withdrawal moment id = record { moment = moment; geographies = []; policies = []; withdrawn = id ∷ [] }

-- the square and the cap at 1000, and a withdrawal of the cap at 3000
abbrev pub then_withdrawn : List Publication
then_withdrawn = first_publication ∷ withdrawal 3000 cap_id ∷ []

-- the square and the cap at 1000, and a policy that supersedes the cap at 2000
abbrev pub then_next : Policy → List Publication
then_next policy = first_publication ∷ publication 2000 (policy ∷ []) ∷ []

-- a publication of one policy at 1000
abbrev pub alone : Policy → List Publication
alone policy = publication 1000 (policy ∷ []) ∷ []

-- the identifiers of published policies
abbrev pub ids_of : List (Published Policy) → List (List ℕ)
ids_of policies = map (λ p. p.document.id) policies

-- the identifiers of the policies in force for an operator at a moment
abbrev pub ids_in_force : List Publication → List ℕ → ℕ → List (List ℕ)
ids_in_force publications operator t = ids_of (in_force publications operator t)
