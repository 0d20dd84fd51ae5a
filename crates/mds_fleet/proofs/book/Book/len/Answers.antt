use Rattle.std.proofs.Common.{sym, ap, ◌∙◌}
use Rattle.std.specs.FinMap as finite
use Rattle.mds_fleet.proofs.Rows.{rows_len}
use Rattle.mds_fleet.proofs.book.Book.len.Goals as goal

pub returns-clause-count : goal.returns-clause-count
returns-clause-count c =
    c.len.ensures.len ∙ sym (rows_len c.self.inside.vehicles c.len.ensures.ordered) ∙ ap (λ b. finite.len b.rows) c.self.view_is
