-- Laws of publications: a lawful list is its own fold, and what is published, superseded or withdrawn stays so.
use Rattle.std.specs.Prelude.{◌≡◌, ℕ, ◌≤◌, List, [], ◌∷◌, ◌++◌, true, Some}
use Rattle.mds_policy.specs.Policy.{Policy}
use Rattle.mds_geography.specs.Geography.{Geography}
use Rattle.mds_catalog.specs.Publication.{Publication, Published, find_policy, find_geography, is_superseded, is_withdrawn, is_lawful, extended}

-- the fold of a list of publications, taken one after another onto those before
abbrev pub folded_onto : List Publication → List Publication → List Publication
folded_onto taken [] = taken
folded_onto taken (p ∷ ps) = folded_onto (extended taken p) ps

abbrev pub folded : List Publication → List Publication
folded ps = folded_onto [] ps

-- each publication is lawful after those before it
abbrev pub AreLawful : List Publication → Type 0
AreLawful ps = (before rest : List Publication) (p : Publication) → ps ≡ before ++ p ∷ rest → is_lawful before p ≡ true

-- a list of lawful publications is its own fold
abbrev pub FoldKeepsLawful : Type 0
FoldKeepsLawful = (ps : List Publication) → AreLawful ps → folded ps ≡ ps

-- the fold of a list with one more publication is what that publication makes of the fold of the list
abbrev pub FoldGoesOn : Type 0
FoldGoesOn = (ps : List Publication) (p : Publication) → folded (ps ++ p ∷ []) ≡ extended (folded ps) p

-- what is published stays published, with its moment
abbrev pub StaysPublished : Type 0
StaysPublished =
    (publications rest : List Publication) (id : List ℕ)
    → ((found : Published Policy) → find_policy publications id ≡ Some found → find_policy (publications ++ rest) id ≡ Some found)
    × ((found : Published Geography) → find_geography publications id ≡ Some found → find_geography (publications ++ rest) id ≡ Some found)

-- a policy that is superseded or withdrawn at a moment is so at every later one, whatever is published afterwards
abbrev pub StaysOver : Type 0
StaysOver =
    (publications rest : List Publication) (id : List ℕ) (t later : ℕ) → t ≤ later
    → (is_superseded publications t id ≡ true → is_superseded (publications ++ rest) later id ≡ true)
    × (is_withdrawn publications t id ≡ true → is_withdrawn (publications ++ rest) later id ≡ true)
