use Rattle.std.proofs.Common.{arith, bit_xor}
use Rattle.std.proofs.lemmas.Nat.{xor_lt}
use Rattle.core.proofs.dec2flt.Eight.{all_digits}
use Rattle.mds_geometry.proofs.Eights.{digits_are}
use Rattle.mds_geometry.proofs.decimal.eight_digits.Goals as goal

pub returns-clause-digits : goal.returns-clause-digits
returns-clause-digits c xs eight is = all_digits xs _ eight is _ c.flags_from_ten.ensures (omega (arith, c.if-flags_from_ten-ne0.false))

pub returns-clause-value : goal.returns-clause-value
returns-clause-value c xs eight is =
    let all = all_digits xs _ eight is _ c.flags_from_ten.ensures (omega (arith, c.if-flags_from_ten-ne0.false)) in
    digits_are xs c.args.word (bit_xor c.args.word 0x3030_3030_3030_3030) c.value_of_eight.result eight is all (omega arith) (xor_lt 64 c.args.word 0x3030_3030_3030_3030 c.ranges.word.fits (omega arith)) c.value_of_eight.ensures
