use Rattle.std.proofs.Common.{◌≡◌, true, take}
use Rattle.server_start.specs.Input.{are_digits}
use Rattle.server_start.proofs.count.are_digits.Given as goal

-- the bytes so far are digits
abbrev pub invariant-loop-byte : goal.invariant-loop-byte
invariant-loop-byte l = record { digits : are_digits (take l.byte-index l.bytes) ≡ true }
