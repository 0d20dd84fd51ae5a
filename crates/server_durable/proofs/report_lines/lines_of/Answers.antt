use Rattle.std.proofs.Common.{arith}
use Rattle.std.specs.List.{flat_map}
use Rattle.server_durable.specs.Many.{told_line}
use Rattle.server_durable.proofs.Told.{told_next, told_over}
use Rattle.server_durable.proofs.report_lines.lines_of.Goals as goal

pub loop-answer-preserved : goal.loop-answer-preserved
loop-answer-preserved c =
    told_next told_line c.args.answers.now c.loop-answer.answer-index c.answer-item.result c.loop-answer.text.items c.push_line.new.text.items
    (flat_map told_line c.args.answers.now) (omega arith) (cc) c.in_ok-push_line.ensures c.loop-answer.invariant

pub returns : goal.returns
returns c = told_over told_line c.args.answers.now c.loop-answer.answer-index c.loop-answer.text.items (flat_map told_line c.args.answers.now) (omega arith) c.loop-answer.invariant
