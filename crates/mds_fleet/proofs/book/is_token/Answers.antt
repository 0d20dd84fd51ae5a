use Rattle.std.proofs.lemmas.Slice.Eq.{bytes_eq-Decides}
use Rattle.mds_fleet.proofs.book.is_token.Goals as goal

pub returns : goal.returns
returns c = rw c.eq.ensures (bytes_eq-Decides _ _)
