-- A grid of cells over an area, and what each cell says of the positions in it.
use Rattle.std.specs.Prelude.{ℕ, ◌+◌, ◌*◌, ◌≡◌, Bool, true, false, ◌&&◌, get_or, List}
use Rattle.std.specs.List.{All, list_any}
use Rattle.mds_geometry.specs.Area.{area_holds}
use Rattle.mds_geometry.specs.Ring.{IsClosed}
use Rattle.mds_geometry.specs.Strips.{lies_between, reaches, strip_of}
use Rattle.mds_geometry.specs.declared.cell.Cell.{Cell}
use Rattle.mds_geometry.specs.declared.cell.Cell.TheVariants.{Mixed, Inside, Outside}
use Rattle.mds_geometry.specs.declared.position.Position.{Position}
use Rattle.mds_geometry.specs.declared.scale.Scale.{Scale}
use Rattle.mds_geometry.specs.declared.strip.Edge.{Edge}

-- each ring of these polygons is closed
abbrev pub AreClosed : List (List (List Position)) → Type 0
AreClosed polygons = All (All IsClosed) polygons

-- the index of a cell: row after row from the south, each of 128 columns from the west
abbrev pub place_of : ℕ → ℕ → ℕ
place_of row column = row * 128 + column

-- an edge covers a cell: it reaches the cell's row and its column
abbrev pub covers : Scale → Scale → ℕ → ℕ → Edge → Bool
covers columns rows row column e =
    reaches rows row e && lies_between (strip_of columns e.from.lng) (strip_of columns e.to.lng) column

-- no edge covers a cell that isn't marked
abbrev pub AreMarked : Scale → Scale → List Edge → List Bool → Type 0
AreMarked columns rows edges marks =
    (row column : ℕ) → get_or marks (place_of row column) false ≡ false → list_any (covers columns rows row column) edges ≡ false

-- what a cell says of a position in it: nothing, or whether it is held
abbrev pub Tells : Cell → Bool → Type 0
Tells Mixed held = Unit {0}
Tells Inside held = held ≡ true
Tells Outside held = held ≡ false

-- each cell is right about what the polygons hold
abbrev pub AreTold : Scale → Scale → List (List (List Position)) → List Cell → Type 0
AreTold columns rows polygons cells =
    (at : Position) → Tells (get_or cells (place_of (strip_of rows at.lat) (strip_of columns at.lng)) Mixed) (area_holds polygons at)
