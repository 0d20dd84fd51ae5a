use Rattle.std.proofs.Common.{Bool, sym, ap, ◌∙◌, arith}
use Rattle.std.specs.List.{position}
use Rattle.mds_match.specs.Resolved.{resolved_meets}
use Rattle.mds_match.specs.Row.{row_of}
use Rattle.mds_match.specs.declared.resolved.ResolvedRule.{ResolvedRule}
use Rattle.mds_match.proofs.Positions.{position_here, position_nowhere}
use Rattle.mds_match.proofs.resolved.ResolvedPolicy.first.Goals as goal

pub returns-then-meets : goal.returns-then-meets
returns-then-meets c =
    let test : ResolvedRule → Bool = λ rule. resolved_meets rule (row_of c.args.vehicle.now) in
    let rules = c.deref-rule-items.result.now in
    sym (position_here test rules c.loop-number.number c.rule-item.result (omega arith) (λ k. c.loop-number.invariant k c.rule-item.result) (ap test (sym c.rule-item.is) ∙ sym c.meets.ensures ∙ c.if-meets.true))
    ∙ ap (position test) c.deref-rule-items.ensures.value

pub returns : goal.returns
returns c =
    let test : ResolvedRule → Bool = λ rule. resolved_meets rule (row_of c.args.vehicle.now) in
    sym (position_nowhere test c.deref-rule-items.result.now (λ k d within. c.loop-number.invariant k d (omega arith)))
    ∙ ap (position test) c.deref-rule-items.ensures.value
