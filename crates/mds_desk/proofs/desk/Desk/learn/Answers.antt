use Rattle.mds_world.proofs.Lasting.{fits_front}
use Rattle.mds_desk.proofs.desk.Desk.learn.Goals as goal

-- the book's index stays right for more publications
pub invariant_of-self : goal.invariant_of-self
invariant_of-self g c =
    let now = c.args.self.now in
    record { limit = now.limit; fits = fits_front now.pane c.learn.new.self now.book c.learn.ensures.kept now.fits }
