use Rattle.mds_request.proofs.Alike.{ids_turn, found_here, found_later}
use Rattle.mds_request.proofs.lookup.ids_repeat.Goals as goal

pub returns-then-has_id : goal.returns-then-has_id
returns-then-has_id c =
    found_here _ _ _ _
    (ids_turn c.in-Some.first.now c.loop-first.rest.now c.in-Some.others.now c.has_id.result c.in-Some.ensures.cases.0 c.has_id.ensures)
    c.loop-first.invariant c.if-has_id.true

pub loop-first-preserved : goal.loop-first-preserved
loop-first-preserved c =
    found_later _ _ _ _
    (ids_turn c.in-Some.first.now c.loop-first.rest.now c.in-Some.others.now c.has_id.result c.in-Some.ensures.cases.0 c.has_id.ensures)
    c.loop-first.invariant c.if-has_id.false
