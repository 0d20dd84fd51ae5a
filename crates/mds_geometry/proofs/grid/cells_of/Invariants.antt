use Rattle.std.proofs.Common.{◌≡◌, ◌*◌, ◌<◌, length, get_or}
use Rattle.mds_geometry.specs.declared.cell.Cell.TheVariants.{Mixed}
use Rattle.mds_geometry.specs.declared.position.Position.{Position}
use Rattle.mds_geometry.specs.Area.{area_holds}
use Rattle.mds_geometry.specs.Grid.{Tells, place_of}
use Rattle.mds_geometry.specs.Strips.{strip_of}
use Rattle.mds_geometry.proofs.grid.cells_of.Given as goal

abbrev pub invariant-loop-row : goal.invariant-loop-row
invariant-loop-row l = record {
  whole : length l.cells.items ≡ l.row * 128;
  told : (at : Position) → strip_of l.rows at.lat < l.row
      → Tells (get_or l.cells.items (place_of (strip_of l.rows at.lat) (strip_of l.columns at.lng)) Mixed) (area_holds l.striped at);
}
