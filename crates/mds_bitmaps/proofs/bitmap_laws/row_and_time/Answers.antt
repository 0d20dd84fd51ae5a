use Rattle.mds_bitmaps.proofs.Split.{row_and_time}
use Rattle.mds_bitmaps.proofs.bitmap_laws.row_and_time.Goals as goal

pub returns : goal.returns
returns c = row_and_time
