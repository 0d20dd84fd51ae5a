use Rattle.std.proofs.Common.{map, take}
use Rattle.mds_policy.specs.Policy.{rule_document}
use Rattle.mds_bitmaps.specs.Masks.{HasBits, is_open_at}
use Rattle.mds_bitmaps.proofs.open_rules.open_bitmap.Given as goal

-- the bits of the rules so far
abbrev pub invariant-loop-number : goal.invariant-loop-number
invariant-loop-number l = HasBits (map (λ r. is_open_at l.local (rule_document r)) (take l.number l.rule-items)) l.mask
