use Rattle.mds_bitmaps.proofs.Keeping.{grown}
use Rattle.mds_bitmaps.proofs.laws.stays_right.Goals as goal

pub returns : goal.returns
returns c = grown
