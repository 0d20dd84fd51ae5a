use Rattle.std.proofs.Common.{◌≡◌, ◌≤◌, ◌-◌, ◌++◌, length, map}
use Rattle.cli_report.specs.Days.{grouped_by, is_of_rule}
use Rattle.cli_report.specs.Ranks.{span_view, spans, spans_from}
use Rattle.cli_report.proofs.ranking.rules_in.Given as goal

-- the rules of the samples that are left stand behind those so far
abbrev pub invariant-rules : goal.invariant-rules
invariant-rules l = record {
  within : length l.left ≤ length l.ordered;
  found : map span_view l.rules.items ++ spans_from (length l.ordered - length l.left) (grouped_by is_of_rule l.left) ≡ spans l.ordered;
}

abbrev pub decreases-rules : goal.decreases-rules
decreases-rules l = length l.left
