use borrow.Enum.Total.{values_d}
use Rattle.std.proofs.Common.{◌≡◌, Result, Ok, ap, refl, subst, sym, ◌∙◌}
use Rattle.std.specs.contracts.result.Result.{enum}
use Rattle.mds_fleet.specs.Fleet.{Fits, rows_of}
use Rattle.mds_fleet.specs.contracts.book.BookFault as fault
use Rattle.mds_fleet.specs.contracts.book.Taken as taken
use Rattle.mds_fleet.specs.declared.book.BookFault.{BookFault}
use Rattle.mds_fleet.specs.declared.book.Taken.{Taken}
use Rattle.mds_fleet.specs.declared.book.Taken.TheVariants.{Changed, New}
use Rattle.mds_fleet.proofs.Fitting.{fits_book}
use Rattle.mds_fleet.proofs.book.Book.report.Goals as goal

-- the result of an accepted report, read out of the outcome as the program does
read : Result Taken BookFault → Taken
read r = (values_d (enum taken.the_row fault.the_row) 0 (New, tt) r).0

as_read : (r : Result Taken BookFault) (is taken : Taken) → r ≡ Ok is → read r ≡ taken → r ≡ Ok taken
unfolding read
as_read r is taken ok reads =
    let same : is ≡ taken = ap read (sym ok) ∙ reads in
    ok ∙ ap (λ t. Ok t) same

-- a new device is put into the index
pub returns-in-Ok-New-clause-fits : goal.returns-in-Ok-New-clause-fits
unfolding read
returns-in-Ok-New-clause-fits c published fits =
    let before = c.self.inside.vehicles in
    let after = c.take-taken.new.vehicles in
    let is = as_read c.take-taken.result c.in-Ok-New.field-0 New c.in-Ok-New.is c.in-Ok-New.field-0-is in
    let fitted = subst (Fits published) (sym c.self.view_is) fits before c.self.invariant.ordered refl in
    fits_book published after (record { rows = rows_of after; limit = c.self.inside.limit; kept = c.arrive.new.self }) c.take-taken.ensures.kept.ordered refl
    (c.arrive.ensures published before after c.self.invariant.ordered (c.take-taken.ensures.arrived is) fitted)

-- the index notes the device
pub returns-in-Ok-Changed-clause-fits : goal.returns-in-Ok-Changed-clause-fits
unfolding read
returns-in-Ok-Changed-clause-fits c published fits =
    let before = c.self.inside.vehicles in
    let after = c.take-taken.new.vehicles in
    let is = as_read c.take-taken.result c.in-Ok-Changed.field-0 Changed c.in-Ok-Changed.is c.in-Ok-Changed.field-0-is in
    let fitted = subst (Fits published) (sym c.self.view_is) fits before c.self.invariant.ordered refl in
    fits_book published after (record { rows = rows_of after; limit = c.self.inside.limit; kept = c.note.new.self }) c.take-taken.ensures.kept.ordered refl
    (c.note.ensures published before after (c.take-taken.ensures.changed is) fitted)
