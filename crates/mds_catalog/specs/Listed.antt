-- Lists in the order of identifiers, and where published documents are.
use Rattle.std.specs.Prelude.{◌≡◌, ℕ, ◌+◌, ◌<◌, ◌≤◌, List, [], ◌∷◌, ◌++◌, length, find, Bool, bytes_eq, slice_index_or}
use Rattle.std.specs.Option.{option_or}
use Rattle.std.specs.Ordering.{nat_cmp}
use Rattle.std.specs.Cmp.Lexicographic.{slice_cmp}
use Rattle.std.specs.declared.cmp.Ordering.{Ordering}
use Rattle.std.specs.declared.cmp.Ordering.TheVariants.{Less, Greater}
use Rattle.mds_catalog.specs.declared.document_index.DocumentSpot.{DocumentSpot}
use Rattle.mds_catalog.specs.Publication.{Publication}

-- identifiers in the order of their bytes
abbrev pub id_cmp : List ℕ → List ℕ → Ordering
id_cmp = slice_cmp nat_cmp

-- an element has an identifier
abbrev pub has : {A : Type 0} → (A → List ℕ) → List ℕ → A → Bool
has id key x = bytes_eq (id x) key

-- ascending by identifier, each identifier once
abbrev pub Ascends : {A : Type 0} → (A → List ℕ) → List A → Type 0
Ascends {A} id xs = (i j : ℕ) (d : A) → i < j → j < length xs → id_cmp (id (slice_index_or xs i d)) (id (slice_index_or xs j d)) ≡ Less

-- the element at this index has the identifier
pub record IsAt {A : Type 0} (id : A → List ℕ) (xs : List A) (key : List ℕ) (at : ℕ) : Type 0 where
  pub within : at < length xs
  pub here : (d : A) → id (slice_index_or xs at d) ≡ key

-- the identifiers before this index are less, and those from it on are greater
pub record IsGap {A : Type 0} (id : A → List ℕ) (xs : List A) (key : List ℕ) (at : ℕ) : Type 0 where
  pub within : at ≤ length xs
  pub before : (j : ℕ) (d : A) → j < at → id_cmp (id (slice_index_or xs j d)) key ≡ Less
  pub after : (j : ℕ) (d : A) → at ≤ j → j < length xs → id_cmp (id (slice_index_or xs j d)) key ≡ Greater

-- an ascending list in which each identifier finds what it found in the old list, or else the first further element
-- that has it
pub record Lists {A : Type 0} (id : A → List ℕ) (old new more : List A) : Type 0 where
  pub ascends : Ascends id new
  pub found : (key : List ℕ) → find (has id key) new ≡ option_or (find (has id key) old) (find (has id key) more)
  pub few : length new ≤ length old + length more

-- where the documents with these identifiers are in a batch, from an index on
abbrev pub spots_from : ℕ → ℕ → List (List ℕ) → List DocumentSpot
spots_from batch place [] = []
spots_from batch place (id ∷ ids) = record { id = id; batch = batch; place = place } ∷ spots_from batch (place + 1) ids

-- where the documents of a kind are in publications, from a batch on
abbrev pub spots_in : (Publication → List (List ℕ)) → ℕ → List Publication → List DocumentSpot
spots_in ids batch [] = []
spots_in ids batch (p ∷ ps) = spots_from batch 0 (ids p) ++ spots_in ids (batch + 1) ps
