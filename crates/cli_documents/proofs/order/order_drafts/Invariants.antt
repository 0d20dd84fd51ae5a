use Rattle.std.proofs.Common.{List, ◌++◌, length}
use Rattle.cli_documents.specs.declared.drafting.ImportDraft.{ImportDraft}
use Rattle.cli_documents.specs.Order.{IsInTurn}
use Rattle.cli_documents.proofs.order.order_drafts.Given as goal

-- what is in turn of those that are left is so behind those that were taken
abbrev pub invariant-turns : goal.invariant-turns
invariant-turns l = (later : List ImportDraft) → IsInTurn l.left.items later → IsInTurn l.fn.drafts.items (l.ordered.items ++ later)

abbrev pub decreases-turns : goal.decreases-turns
decreases-turns l = length l.left.items
