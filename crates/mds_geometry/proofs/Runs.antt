-- The cells of a row, one after another.
use Rattle.std.proofs.Common.{arith, inl, inr, ◌⊎◌, ◌≡◌, sym, ◌∙◌, ap, refl, subst, ℕ, ◌+◌, ◌≤◌, ◌<◌, Bool, false, List, [], ◌∷◌, ◌++◌, length, length-append, get_or}
use Rattle.std.specs.List.{All, list_any}
use Rattle.std.proofs.Math.ListN.{get_or-append}
use Rattle.std.proofs.Math.Seq.{get_or-append_seam}
use Rattle.std.proofs.lemmas.Bool.{cases_lt}
use Rattle.mds_geometry.specs.declared.cell.Cell.{Cell}
use Rattle.mds_geometry.specs.declared.cell.Cell.TheVariants.{Mixed}
use Rattle.mds_geometry.specs.declared.position.Position.{Position}
use Rattle.mds_geometry.specs.declared.scale.Scale.{Scale}
use Rattle.mds_geometry.specs.Area.{area_holds}
use Rattle.mds_geometry.specs.Grid.{Tells, covers}
use Rattle.mds_geometry.specs.Ring.{IsClosed}
use Rattle.mds_geometry.specs.Strips.{edges_from, strip_of}
use Rattle.mds_geometry.proofs.Cells.{run_alike}

-- a cell says nothing, or what holds at a position of the row from which no cell up to a column is marked
abbrev pub IsRun : Scale → Scale → List (List (List Position)) → List Bool → ℕ → ℕ → Cell → Type 0
IsRun columns rows polygons marks row column cell =
    (cell ≡ Mixed) ⊎ ((at : Position) × (strip_of rows at.lat ≡ row) × (strip_of columns at.lng < column)
    × ((n : ℕ) → strip_of columns at.lng ≤ n → n < column → get_or marks n false ≡ false) × Tells cell (area_holds polygons at))

-- a cell says nothing, or what holds at a position in the cell
abbrev pub IsCorner : Scale → Scale → List (List (List Position)) → ℕ → ℕ → Cell → Type 0
IsCorner columns rows polygons row column cell =
    (cell ≡ Mixed) ⊎ ((at : Position) × (strip_of rows at.lat ≡ row) × (strip_of columns at.lng ≡ column) × Tells cell (area_holds polygons at))

-- the cells of a row up to a column, after others
pub record AreRun (columns rows : Scale) (polygons : List (List (List Position))) (marks : List Bool) (row column : ℕ) (old cells : List Cell) (cell : Cell) : Type 0 where
  pub count : length cells ≡ length old + column
  pub kept : (k : ℕ) → k < length old → get_or cells k Mixed ≡ get_or old k Mixed
  pub told : (at : Position) → strip_of rows at.lat ≡ row → strip_of columns at.lng < column
      → Tells (get_or cells (length old + strip_of columns at.lng) Mixed) (area_holds polygons at)
  pub run : IsRun columns rows polygons marks row column cell

-- ---- a run that goes on, and one that begins

pub goes_on : (columns rows : Scale) (polygons : List (List (List Position))) (marks : List Bool) (row column : ℕ) (cell : Cell)
    → get_or marks column false ≡ false → IsRun columns rows polygons marks row column cell → IsRun columns rows polygons marks row (column + 1) cell
goes_on columns rows polygons marks row column cell free run =
    elim run [
      | inl nothing ↦ inl nothing
      | inr r ↦ inr (
        r.0,
        r.1,
        let first = r.2 in omega arith,
        λ n low high. (elim (cases_lt n column) [
          | inl lt ↦ r.3 n low lt
          | inr le ↦ (let same : n ≡ column = omega arith in ap (λ j. get_or marks j false) same ∙ free)
        ]),
        r.4,
      )
    ]

pub begins : (columns rows : Scale) (polygons : List (List (List Position))) (marks : List Bool) (row column : ℕ) (cell : Cell)
    → get_or marks column false ≡ false
    → IsCorner columns rows polygons row column cell
    → IsRun columns rows polygons marks row (column + 1) cell
begins columns rows polygons marks row column cell free corner =
    elim corner [
      | inl nothing ↦ inl nothing
      | inr r ↦ inr (
        r.0,
        r.1,
        let here = r.2 in omega arith,
        λ n low high. (let here = r.2 in let same : n ≡ column = omega arith in ap (λ j. get_or marks j false) same ∙ free),
        r.3,
      )
    ]

-- ---- one more cell

-- what a run of cells says of a position of its last column
told_of_run : (columns rows : Scale) (polygons : List (List (List Position))) (marks : List Bool) (row column : ℕ) (cell : Cell) (at : Position)
    → All (All IsClosed) polygons
    → ((n : ℕ) → n < column + 1 → get_or marks n false ≡ false → list_any (covers columns rows row n) (edges_from 0 polygons) ≡ false)
    → IsRun columns rows polygons marks row (column + 1) cell → strip_of rows at.lat ≡ row → strip_of columns at.lng ≡ column
    → Tells cell (area_holds polygons at)
told_of_run columns rows polygons marks row column cell at closed spared run here there =
    elim run [
      | inl nothing ↦ subst (λ t. Tells t (area_holds polygons at)) (sym nothing) tt
      | inr r ↦
          let first = r.2 in
          let same = run_alike columns rows row (strip_of columns (r.0).lng) column r.0 at polygons closed
          (record { row = r.1; row_to = here; first = refl; last = sym there; run = omega arith })
          (λ n low high. spared n (omega arith) (r.3 n low (omega arith))) in
          subst (Tells cell) same r.4
    ]

pub row_more : (columns rows : Scale) (polygons : List (List (List Position))) (marks : List Bool) (row column : ℕ) (old cells : List Cell) (cell next : Cell)
    → All (All IsClosed) polygons
    → ((n : ℕ) → n < column + 1 → get_or marks n false ≡ false → list_any (covers columns rows row n) (edges_from 0 polygons) ≡ false)
    → AreRun columns rows polygons marks row column old cells cell → IsRun columns rows polygons marks row (column + 1) next
    → AreRun columns rows polygons marks row (column + 1) old (cells ++ next ∷ []) next
row_more columns rows polygons marks row column old cells cell next closed spared before run =
    let count = before.count in
    record {
      count = omega (arith, length-append cells (next ∷ []));
      kept = λ k within. get_or-append cells (next ∷ []) Mixed k (omega arith) ∙ before.kept k within;
      told = λ at here there. (elim (cases_lt (strip_of columns at.lng) column) [
        | inl lt ↦
            subst (λ t. Tells t (area_holds polygons at))
            (sym (get_or-append cells (next ∷ []) Mixed (length old + strip_of columns at.lng) (omega arith)))
            (before.told at here lt)
        | inr le ↦
            let last : strip_of columns at.lng ≡ column = omega arith in
            let place : length old + strip_of columns at.lng ≡ length cells = omega arith in
            subst (λ t. Tells t (area_holds polygons at))
            (sym (ap (λ j. get_or (cells ++ next ∷ []) j Mixed) place ∙ get_or-append_seam cells next [] Mixed))
            (told_of_run columns rows polygons marks row column next at closed spared run here last)
      ]);
      run = run;
    }
