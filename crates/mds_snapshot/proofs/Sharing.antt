-- The steps on the two copies keep the invariant.
use Rattle.std.proofs.Common.{◌≡◌, ℕ, ◌≢◌, List, [], ◌∷◌, ◌++◌, true, fold, refl, subst, ⊎_elim, ap, sym, ◌∙◌}
use mathlib.Core.Option.{some}
use mathlib.Core.List.{IsPrefix}
use lib.ListN.{get_elem?}
use Rattle.logbook.specs.Pages.{Book}
use Rattle.left_right.specs.Register.{Admits, TurnsAt}
use Rattle.atomic_table.proofs.Lists.{at_set, at_snoc}
use Rattle.mds_catalog.specs.Publication.{Publication, publication_of, is_lawful, extended}
use Rattle.mds_catalog.specs.Catalogue.{publications_of}
use Rattle.mds_catalog.specs.Laws.{AreLawful}
use Rattle.mds_snapshot.specs.declared.snapshot_copy.SnapshotCopy.{SnapshotCopy}
use Rattle.mds_snapshot.specs.declared.snapshot_copy.CopyOperation.{CopyOperation}
use Rattle.mds_snapshot.specs.declared.snapshot_copy.CopyOperation.TheVariants.{Rest, Publish}
use Rattle.std.specs.declared.sync.Arc.{Arc}
use Rattle.std.specs.declared.alloc.Global.{Global}
use Rattle.mds_catalog.specs.declared.batch.Batch.{Batch}
use Rattle.mds_snapshot.specs.declared.history.UnnamedFront.{UnnamedFront}
use Rattle.mds_snapshot.specs.Copies.{applied, IsFrontOf, IsKeptAt, Sees}
use Rattle.mds_snapshot.proofs.Fronts.{prefix_self, prefix_trans}
use Rattle.mds_catalog.proofs.Lawful.{lawful_more}

pub admits : (book : Book) → Admits (IsKeptAt book) []
admits book x views h = (
  h.0,
  (λ seat v at. ⊎_elim (h.1 seat v) (λ (e : [] ≡ v). subst (λ (z : List Publication). IsPrefix z (publications_of x.catalogue)) e (publications_of x.catalogue, refl)) (at_snoc views [] v seat at)),
)

-- a step after which a longer front is visible keeps the invariant, and that front is seen
pub sees : (book : Book) (seat : ℕ) (v : List Publication) (x y : SnapshotCopy) → IsPrefix (publications_of x.catalogue) (publications_of y.catalogue) → (IsFrontOf book x → IsFrontOf book y)
    → TurnsAt (IsKeptAt book) seat v x y (Sees book)
sees book seat v x y on tied views h at =
    let ys = publications_of y.catalogue in (
      ys,
      (
        tied h.0,
        (λ j u e. ⊎_elim (λ (t : (j ≡ seat) × (ys ≡ u)). subst (λ (z : List Publication). IsPrefix z ys) t.1 (prefix_self ys)) (λ (t : (j ≢ seat) × (get_elem? views j ≡ some u)). prefix_trans u (publications_of x.catalogue) ys (h.1 j u t.1) on)
            (at_set views seat j ys u e)),
      ),
      (tied h.0, h.1 seat v at, refl),
    )

-- one more lawful publication, with the front that ends with it
pub publishes : (book : Book) (seat : ℕ) (v : List Publication) (x y : SnapshotCopy) (ops : List CopyOperation) (batch : Arc Batch Global) (t : UnnamedFront)
    → ops ≡ Publish batch t ∷ []
    → ◌≡◌ {A = List Publication × UnnamedFront} (publications_of y.catalogue, y.trail) (fold applied (publications_of x.catalogue, x.trail) ops)
    → is_lawful (publications_of x.catalogue) (publication_of batch.value) ≡ true
    → t.seen.log ≡ publications_of x.catalogue ++ publication_of batch.value ∷ [] → t.seen.book ≡ book
    → TurnsAt (IsKeptAt book) seat v x y (Sees book)
publishes book seat v x y ops batch t one made lawful log named =
    let p : Publication = publication_of batch.value in
    let is : ◌≡◌ {A = List Publication × UnnamedFront} (publications_of y.catalogue, y.trail) (extended (publications_of x.catalogue) p, t) =
    made ∙ ap (λ l. fold applied (publications_of x.catalogue, x.trail) l) one in
    let grown : extended (publications_of x.catalogue) p ≡ publications_of x.catalogue ++ p ∷ [] = rw lawful refl in
    let all : publications_of y.catalogue ≡ publications_of x.catalogue ++ p ∷ [] = ap (λ q. q.0) is ∙ grown in
    let trail : y.trail ≡ t = ap (λ q. q.1) is in
    sees book seat v x y (p ∷ [], sym all)
    (λ h. (
      ap (λ (t : UnnamedFront). t.seen.log) trail ∙ (log ∙ sym all),
      ap (λ (t : UnnamedFront). t.seen.book) trail ∙ named,
      subst AreLawful (sym all) (lawful_more (publications_of x.catalogue) p h.2 lawful),
    ))

-- a step that changes nothing
pub stays : (book : Book) (seat : ℕ) (v : List Publication) (x y : SnapshotCopy) (ops : List CopyOperation)
    → ops ≡ Rest ∷ []
    → ◌≡◌ {A = List Publication × UnnamedFront} (publications_of y.catalogue, y.trail) (fold applied (publications_of x.catalogue, x.trail) ops)
    → TurnsAt (IsKeptAt book) seat v x y (Sees book)
stays book seat v x y ops one made =
    let is : ◌≡◌ {A = List Publication × UnnamedFront} (publications_of y.catalogue, y.trail) (publications_of x.catalogue, x.trail) =
    made ∙ ap (λ l. fold applied (publications_of x.catalogue, x.trail) l) one in
    let all : publications_of y.catalogue ≡ publications_of x.catalogue = ap (λ q. q.0) is in
    let trail : y.trail ≡ x.trail = ap (λ q. q.1) is in
    sees book seat v x y (subst (λ (z : List Publication). IsPrefix (publications_of x.catalogue) z) (sym all) (prefix_self (publications_of x.catalogue)))
    (λ h. (
      ap (λ (t : UnnamedFront). t.seen.log) trail ∙ (h.0 ∙ sym all),
      ap (λ (t : UnnamedFront). t.seen.book) trail ∙ h.1,
      subst AreLawful (sym all) h.2,
    ))
