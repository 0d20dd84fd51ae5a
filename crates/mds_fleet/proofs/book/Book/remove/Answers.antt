use Rattle.std.proofs.Common.{Some, ap, refl, subst, sym, ◌∙◌, arith}
use Rattle.std.specs.FinMap as finite
use Rattle.mds_match.specs.Row.{row_of}
use Rattle.mds_fleet.specs.Fleet.{Fits, rows_of}
use Rattle.mds_fleet.proofs.Fitting.{departed_one, fits_book}
use Rattle.mds_fleet.proofs.Rows.{get_row, held_row, removed_row, removed_kept}
use Rattle.mds_fleet.proofs.book.Book.remove.Goals as goal

pub invariant_of-self : goal.invariant_of-self
invariant_of-self c =
    removed_kept c.self.inside.limit c.self.inside.vehicles c.remove.new.self c.args.device c.remove.ensures.updates.0 c.remove.ensures.ordered (omega (arith, c.remove.ensures.len)) c.self.invariant

pub returns-in-Some-clause-held : goal.returns-in-Some-clause-held
returns-in-Some-clause-held c =
    ap (λ v. Some (row_of v)) c.into_inner.ensures ∙ ap held_row c.in-Some.ensures.value
    ∙ sym (get_row c.self.inside.vehicles c.args.device)
    ∙ ap (λ b. finite.get b.rows c.args.device) c.self.view_is

pub returns-in-None-clause-held : goal.returns-in-None-clause-held
returns-in-None-clause-held c =
    ap held_row c.in-None.ensures.value
    ∙ sym (get_row c.self.inside.vehicles c.args.device)
    ∙ ap (λ b. finite.get b.rows c.args.device) c.self.view_is

pub returns-in-Some-clause-rows : goal.returns-in-Some-clause-rows
returns-in-Some-clause-rows c =
    removed_row c.self.inside.vehicles c.remove.new.self c.args.device c.remove.ensures.updates.0 ∙ ap (λ b. finite.remove b.rows c.args.device) c.self.view_is

-- the device is taken out of the index
pub returns-in-Some-clause-fits : goal.returns-in-Some-clause-fits
returns-in-Some-clause-fits c published fits =
    let before = c.self.inside.vehicles in
    let after = c.remove.new.self in
    let fitted = subst (Fits published) (sym c.self.view_is) fits before c.self.invariant.ordered refl in
    let departs = departed_one before after c.args.device c.remove.ensures.updates.0 c.remove.ensures.updates.1 c.remove.ensures.entries in
    fits_book published after (record { rows = rows_of after; limit = c.self.inside.limit; kept = c.depart.new.self }) c.remove.ensures.ordered refl
    (c.depart.ensures published before after c.self.invariant.ordered departs fitted)
