use Rattle.mds_request.proofs.Alike.{tokens_turn, found_here, found_later}
use Rattle.mds_request.proofs.lookup.tokens_repeat.Goals as goal

pub returns-then-has_token : goal.returns-then-has_token
returns-then-has_token c =
    found_here _ _ _ _
    (tokens_turn c.in-Some.first.now c.loop-first.rest.now c.in-Some.others.now _ c.has_token.result c.in-Some.ensures.cases.0 c.as_str.ensures.value c.has_token.ensures)
    c.loop-first.invariant c.if-has_token.true

pub loop-first-preserved : goal.loop-first-preserved
loop-first-preserved c =
    found_later _ _ _ _
    (tokens_turn c.in-Some.first.now c.loop-first.rest.now c.in-Some.others.now _ c.has_token.result c.in-Some.ensures.cases.0 c.as_str.ensures.value c.has_token.ensures)
    c.loop-first.invariant c.if-has_token.false
