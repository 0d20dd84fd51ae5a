use Rattle.std.proofs.Common.{◌≡◌, map, take}
use Rattle.mds_text.specs.View.{view}
use Rattle.mds_verdict.specs.Verdict.{reported_rule, verdict_document}
use Rattle.mds_verdict.proofs.report.report_tree.Given as goal

abbrev pub invariant-loop-verdict : goal.invariant-loop-verdict
invariant-loop-verdict l = map view l.rules.items ≡ map reported_rule (map verdict_document (take l.verdict-index l.verdicts))
