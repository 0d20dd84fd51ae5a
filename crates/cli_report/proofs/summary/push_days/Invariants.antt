use Rattle.std.proofs.Common.{length, map}
use Rattle.cli_report.specs.Cells.{IsRow}
use Rattle.cli_report.specs.Names.{tree_policy}
use Rattle.cli_report.specs.Rows.{day_row, operator_view}
use Rattle.cli_report.proofs.Dayed.{GoesOn}
use Rattle.cli_report.proofs.summary.push_days.Given as goal

-- the rows of the groups that are left go on behind those so far
abbrev pub invariant-days : goal.invariant-days
invariant-days l =
    GoesOn (λ samples. IsRow l.zone (day_row (operator_view l.operator) (map tree_policy l.trees) samples)) l.ordered l.left l.fn.out.items l.out.items

abbrev pub decreases-days : goal.decreases-days
decreases-days l = length l.left
