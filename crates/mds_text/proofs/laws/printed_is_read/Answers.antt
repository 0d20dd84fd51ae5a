use Rattle.mds_text.proofs.Printing.{units_of-printed}
use Rattle.mds_text.proofs.laws.printed_is_read.Goals as goal

pub returns : goal.returns
returns c = units_of-printed
