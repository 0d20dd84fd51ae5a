use Rattle.std.proofs.Common.{◌≡◌, ◌+◌, ◌-◌, ◌≤◌, drop, length}
use Rattle.mds_text.specs.Quoting.{string_len}
use Rattle.mds_text.proofs.quote.string_len.Given as goal

-- what was passed and the string in what is left are the whole string
abbrev pub invariant-loop-at : goal.invariant-loop-at
invariant-loop-at l = (l.at ≤ length l.text) × (l.at + string_len (drop l.at l.text) ≡ string_len l.text)

abbrev pub decreases-loop-at : goal.decreases-loop-at
decreases-loop-at l = length l.text - l.at
