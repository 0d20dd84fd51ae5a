use Rattle.std.proofs.Common.{arith, subst, sym, ap, length, ◌+◌}
use Rattle.mds_geometry.proofs.Starts.{AreStartedTo, started_all, started_more}
use Rattle.mds_geometry.proofs.start.push_ring.Goals as goal

pub loop-place-preserved : goal.loop-place-preserved
loop-place-preserved c =
    subst (λ all. AreStartedTo c.args.polygons.now c.args.polygon c.args.ring c.args.all.now.items all (c.loop-place.place + 1)) (sym c.in_ok-push.ensures.items)
    (started_more c.args.polygons.now c.args.polygon c.args.ring c.args.all.now.items c.loop-place.all.items c.loop-place.place c.in_ok-position.position c.in_ok-position.ensures
    (omega (arith, ap length c.positions_at-positions.ensures)) c.loop-place.invariant)

pub returns : goal.returns
returns c =
    started_all c.args.polygons.now c.args.polygon c.args.ring c.args.all.now.items c.loop-place.all.items c.loop-place.place
    (omega (arith, ap length c.positions_at-positions.ensures)) c.loop-place.invariant
