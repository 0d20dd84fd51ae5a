use Rattle.std.proofs.Common.{map, take}
use Rattle.mds_match.specs.Row.{row_of}
use Rattle.mds_bitmaps.specs.Masks.{HasBits}
use Rattle.mds_bitmaps.specs.Masked.{masked_matches}
use Rattle.mds_bitmaps.proofs.matcher.PolicyMatcher.bitmap.Given as goal

-- the bits of the rules so far
abbrev pub invariant-loop-number : goal.invariant-loop-number
invariant-loop-number l = HasBits (map (masked_matches (row_of l.vehicle)) (take l.number l.rule-items)) l.mask
