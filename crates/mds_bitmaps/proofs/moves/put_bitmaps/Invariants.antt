use Rattle.std.proofs.Common.{◌≡◌, ℕ, ◌<◌, ◌≤◌, get_or, length}
use Rattle.mds_bitmaps.specs.Index.{with_place}
use Rattle.mds_bitmaps.specs.declared.bitmap_index.BitmapColumn.{BitmapColumn}
use Rattle.mds_bitmaps.proofs.moves.put_bitmaps.Given as goal

-- the columns so far are edited, the others are unchanged
abbrev pub invariant-loop-column : goal.invariant-loop-column
invariant-loop-column l = record {
  policies : (k : ℕ) (d : BitmapColumn) → k < length l.fn.columns → (get_or l.columns k d).policy ≡ (get_or l.fn.columns k d).policy;
  seen : (k : ℕ) (d : BitmapColumn) → k < length l.fn.columns → (get_or l.columns k d).seen ≡ (get_or l.fn.columns k d).seen;
  before : (k : ℕ) (d : BitmapColumn) → k < l.column-index → k < length l.fn.columns → (get_or l.columns k d).masks.items ≡ with_place l.place (get_or l.fn.columns k d).masks.items;
  after : (k : ℕ) (d : BitmapColumn) → l.column-index ≤ k → get_or l.columns k d ≡ get_or l.fn.columns k d;
}
