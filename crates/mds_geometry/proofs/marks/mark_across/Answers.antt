use Rattle.std.proofs.Common.{arith, ◌≡◌, ◌+◌, ◌*◌, ◌<◌, ◌≤◌, ℕ}
use Rattle.mds_geometry.proofs.Indexed.{strip_top}
use Rattle.mds_geometry.proofs.marks.mark_across.Goals as goal

-- the index of a cell of the grid is within its cells
within : (row column last end : ℕ) → row ≤ last → column < 128 → end ≡ (last + 1) * 128 → row * 128 + column < end
within row column last end below narrow is = omega arith

pub mark_box-requires-clause-rows : goal.mark_box-requires-clause-rows
mark_box-requires-clause-rows c =
    let top = c.min_max-south.ensures.most 4294967295 (omega (arith, c.strip_of.ensures.few)) (omega (arith, c.strip_of-2.ensures.few)) in omega arith

pub mark_box-requires-clause-within : goal.mark_box-requires-clause-within
mark_box-requires-clause-within c =
    let rows = c.args.rows.now in
    let columns = c.args.columns.now in
    let e = c.args.edge.now in
    let top = c.min_max-south.ensures.most rows.last (omega (arith, c.strip_of.ensures.value, strip_top rows e.from.lat)) (omega (arith, c.strip_of-2.ensures.value, strip_top rows e.to.lat)) in
    let east = c.min_max-west.ensures.most columns.last (omega (arith, c.strip_of-3.ensures.value, strip_top columns e.from.lng)) (omega (arith, c.strip_of-4.ensures.value, strip_top columns e.to.lng)) in
    within c.min_max-south.result.1 c.min_max-west.result.1 rows.last _ top (omega (arith, c.requires.narrow)) c.requires.whole

pub mark_box-requires-clause-narrow : goal.mark_box-requires-clause-narrow
mark_box-requires-clause-narrow c =
    let columns = c.args.columns.now in
    let e = c.args.edge.now in
    let east = c.min_max-west.ensures.most columns.last (omega (arith, c.strip_of-3.ensures.value, strip_top columns e.from.lng)) (omega (arith, c.strip_of-4.ensures.value, strip_top columns e.to.lng)) in
    omega (arith, c.requires.narrow)
