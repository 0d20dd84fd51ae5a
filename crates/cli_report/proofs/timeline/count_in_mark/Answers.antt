use Rattle.std.proofs.Common.{rules, ◌≡◌, true, false, arith}
use Rattle.cli_report.specs.Lines.{goes_on}
use Rattle.cli_report.proofs.Groups.{all_together, at_first, ends, one_more}
use Rattle.cli_report.proofs.timeline.count_in_mark.Goals as goal

pub loop-last-init : goal.loop-last-init
loop-last-init c = at_first (goes_on c.args.zone.now c.args.span.now.every) c.args.samples.now

pub returns-then-not-goes_on-clause-group : goal.returns-then-not-goes_on-clause-group
returns-then-not-goes_on-clause-group c =
    let a = c.index-samples-last.result in
    let b = c.index-samples-last-in-loop-last.result in
    let other : goes_on c.args.zone.now c.args.span.now.every a b ≡ false = search rules in
    ends (goes_on c.args.zone.now c.args.span.now.every) c.args.samples.now c.loop-last.last a b (omega arith)
    c.index-samples-last.is c.index-samples-last-in-loop-last.is other c.loop-last.invariant

pub loop-last-preserved : goal.loop-last-preserved
loop-last-preserved c =
    let a = c.index-samples-last.result in
    let b = c.index-samples-last-in-loop-last.result in
    let same : goes_on c.args.zone.now c.args.span.now.every a b ≡ true = search rules in
    one_more (goes_on c.args.zone.now c.args.span.now.every) c.args.samples.now c.loop-last.last a b (omega arith)
    c.index-samples-last.is c.index-samples-last-in-loop-last.is same c.loop-last.invariant

pub returns-clause-group : goal.returns-clause-group
returns-clause-group c = all_together (goes_on c.args.zone.now c.args.span.now.every) c.args.samples.now c.loop-last.last c.requires (omega arith) c.loop-last.invariant
