use Rattle.std.proofs.Common.{rules, ◌≡◌, true, false, arith}
use Rattle.cli_report.specs.Days.{is_beside}
use Rattle.cli_report.proofs.Groups.{all_together, at_first, ends, one_more}
use Rattle.cli_report.proofs.days.count_first.Goals as goal

pub loop-last-init : goal.loop-last-init
loop-last-init c = at_first is_beside c.args.samples.now

pub returns-then-not-is_beside-clause-group : goal.returns-then-not-is_beside-clause-group
returns-then-not-is_beside-clause-group c =
    let a = c.index-samples-last.result in
    let b = c.index-samples-last-in-loop-last.result in
    let other : is_beside a b ≡ false = search rules in
    ends is_beside c.args.samples.now c.loop-last.last a b (omega arith) c.index-samples-last.is c.index-samples-last-in-loop-last.is other c.loop-last.invariant

pub loop-last-preserved : goal.loop-last-preserved
loop-last-preserved c =
    let a = c.index-samples-last.result in
    let b = c.index-samples-last-in-loop-last.result in
    let same : is_beside a b ≡ true = search rules in
    one_more is_beside c.args.samples.now c.loop-last.last a b (omega arith) c.index-samples-last.is c.index-samples-last-in-loop-last.is same c.loop-last.invariant

pub returns-clause-group : goal.returns-clause-group
returns-clause-group c = all_together is_beside c.args.samples.now c.loop-last.last c.requires (omega arith) c.loop-last.invariant
