-- The invariant of the two copies: each is the fold of a front of one history, in which every publication is lawful
-- after those before it, and what each reader has seen is a front of what is visible.
use Rattle.std.specs.Prelude.{◌≡◌, ℕ, List}
use mathlib.Core.Option.{some}
use mathlib.Core.List.{IsPrefix}
use lib.ListN.{get_elem?}
use Rattle.logbook.specs.Pages.{Book}
use Rattle.mds_catalog.specs.Publication.{Publication, publication_of, extended}
use Rattle.mds_catalog.specs.Catalogue.{publications_of}
use Rattle.mds_catalog.specs.Laws.{AreLawful}
use Rattle.mds_snapshot.specs.declared.history.UnnamedFront.{UnnamedFront}
use Rattle.mds_snapshot.specs.declared.snapshot_copy.SnapshotCopy.{SnapshotCopy}
use Rattle.mds_snapshot.specs.declared.snapshot_copy.CopyOperation.{CopyOperation}
use Rattle.mds_snapshot.specs.declared.snapshot_copy.CopyOperation.TheVariants.{Rest, Publish}

-- what an operation makes of a copy's publications and of its front
abbrev pub applied : List Publication × UnnamedFront → CopyOperation → List Publication × UnnamedFront
applied s Rest = s
applied s (Publish batch trail) = (extended s.0 (publication_of batch.value), trail)

-- the catalogue is the fold of a front of this book's history, each publication lawful after those before it
abbrev pub IsFrontOf : Book → SnapshotCopy → Type 0
IsFrontOf book s =
    (s.trail.seen.log ≡ publications_of s.catalogue) × (s.trail.seen.book ≡ book) × AreLawful (publications_of s.catalogue)

-- what was seen at each slot is a front of these publications
abbrev pub AreFronts : List Publication → List (List Publication) → Type 0
AreFronts shown views = (seat : ℕ) (v : List Publication) → get_elem? views seat ≡ some v → IsPrefix v shown

abbrev pub IsKeptAt : Book → SnapshotCopy → List (List Publication) → Type 0
IsKeptAt book s views = IsFrontOf book s × AreFronts (publications_of s.catalogue) views

-- what is visible afterwards is seen, and what was seen before is a front of it
abbrev pub Sees : Book → List Publication → SnapshotCopy → SnapshotCopy → List Publication → Type 0
Sees book v x y w = IsFrontOf book y × IsPrefix v (publications_of x.catalogue) × (w ≡ publications_of y.catalogue)
