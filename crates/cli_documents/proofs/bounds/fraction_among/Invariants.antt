use Rattle.std.proofs.Common.{◌≡◌, map, drop}
use Rattle.mds_text.specs.View.{view}
use Rattle.cli_documents.specs.Documents.{fraction_among}
use Rattle.cli_documents.proofs.bounds.fraction_among.Given as goal

-- what was passed has none
abbrev pub invariant-loop-rule : goal.invariant-loop-rule
invariant-loop-rule l = fraction_among (map view (drop l.rule-index l.rules)) ≡ fraction_among (map view l.rules)
