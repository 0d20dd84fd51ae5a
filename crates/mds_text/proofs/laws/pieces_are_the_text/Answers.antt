use Rattle.mds_text.proofs.Pieces.{pieces_are_the_text}
use Rattle.mds_text.proofs.laws.pieces_are_the_text.Goals as goal

pub returns : goal.returns
returns c = pieces_are_the_text
