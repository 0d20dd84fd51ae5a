use Rattle.std.proofs.Common.{Some, ap, sym, ◌∙◌}
use Rattle.std.specs.FinMap as finite
use Rattle.mds_match.specs.Row.{row_of}
use Rattle.mds_fleet.proofs.Rows.{get_row, held_row}
use Rattle.mds_fleet.proofs.book.Book.get.Goals as goal

pub returns-in-Some : goal.returns-in-Some
returns-in-Some c =
    ap (λ v. Some (row_of v)) c.deref.ensures ∙ ap held_row c.in-Some.ensures.value ∙ sym (get_row c.self.inside.vehicles c.args.device) ∙ ap (λ b. finite.get b.rows c.args.device) c.self.view_is

pub returns-in-None : goal.returns-in-None
returns-in-None c =
    ap held_row c.in-None.ensures.value ∙ sym (get_row c.self.inside.vehicles c.args.device) ∙ ap (λ b. finite.get b.rows c.args.device) c.self.view_is
