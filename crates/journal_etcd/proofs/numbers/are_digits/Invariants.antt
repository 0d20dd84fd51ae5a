use Rattle.std.proofs.Common.{◌≡◌, true, take}
use Rattle.journal_etcd.specs.Reading.{are_digits}
use Rattle.journal_etcd.proofs.numbers.are_digits.Given as goal

-- the bytes so far are digits
abbrev pub invariant-loop-byte : goal.invariant-loop-byte
invariant-loop-byte l = record { digits : are_digits (take l.byte-index l.text) ≡ true }
