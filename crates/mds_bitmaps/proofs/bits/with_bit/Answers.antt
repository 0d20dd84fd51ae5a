use Rattle.mds_bitmaps.proofs.WordBits.{bit_set, bit_left}
use Rattle.mds_bitmaps.proofs.bits.with_bit.Goals as goal

pub returns-then-is_set : goal.returns-then-is_set
returns-then-is_set c bits long before = rw c.if-is_set.true (bit_set bits c.args.word c.args.number long c.requires before)

pub returns-else-is_set : goal.returns-else-is_set
returns-else-is_set c bits long before = rw c.if-is_set.false (bit_left bits c.args.word c.args.number long c.requires before)
