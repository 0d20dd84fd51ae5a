use mathlib.Core.List.{IsPrefix}
use Rattle.std.proofs.Common.{◌≡◌, inr, refl, sym, subst}
use Rattle.mds_machine.proofs.Views.{prefix_self}
use Rattle.mds_world.proofs.Lasting.{fits_front}
use Rattle.mds_desk.proofs.desk.Desk.run_query_owned.Goals as goal

-- the book's index stays right for a front that has all that is known as a prefix
pub invariant_of-desk : goal.invariant_of-desk
invariant_of-desk g c =
    let d = c.args.self in
    let left : c.leave-pane.result ≡ c.in-Ok.look = cc in
    record { limit = d.limit; fits = fits_front d.pane c.leave-pane.result d.book (subst (IsPrefix d.pane) (sym left) c.in-Ok.ensures) d.fits }

-- the front of the snapshot is known from then on
pub returns-in-Ok-clause-learnt : goal.returns-in-Ok-clause-learnt
returns-in-Ok-clause-learnt g c =
    let left : c.leave-pane.result ≡ c.in-Ok.look = cc in
    record {
      same = record { configuration = refl; place = refl };
      kept = subst (IsPrefix c.args.self.pane) (sym left) c.in-Ok.ensures;
      told = prefix_self c.leave-pane.result;
      one = inr refl;
      rows = refl;
    }
