use Rattle.std.proofs.Common.{◌≡◌, ◌++◌, drop}
use Rattle.std.specs.List.{flat_map}
use Rattle.server_durable.specs.Many.{told_line}
use Rattle.server_durable.proofs.report_lines.lines_of.Given as goal

-- the lines so far, with those of the answers that are left, are those of all
abbrev pub invariant-loop-answer : goal.invariant-loop-answer
invariant-loop-answer l = l.text.items ++ flat_map told_line (drop l.answer-index l.answers) ≡ flat_map told_line l.answers
