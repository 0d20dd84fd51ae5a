use Rattle.std.proofs.Common.{map, take}
use Rattle.cli_report.specs.Cells.{IsRow}
use Rattle.cli_report.specs.Names.{tree_policy}
use Rattle.cli_report.specs.Rows.{operator_view, verdict_row}
use Rattle.cli_report.specs.Texts.{Appends, Spells}
use Rattle.cli_report.proofs.verdicts.push_samples.Given as goal

-- the rows so far
abbrev pub invariant-loop-sample : goal.invariant-loop-sample
invariant-loop-sample l =
    Appends (Spells (λ s. IsRow l.zone (verdict_row (operator_view l.operator) (map tree_policy l.trees) s)) (take l.sample-index l.samples))
    l.fn.out.items l.out.items
