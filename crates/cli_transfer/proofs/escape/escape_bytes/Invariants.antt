use Rattle.std.proofs.Common.{◌≡◌, ◌++◌, drop, string_bytes}
use Rattle.cli_transfer.specs.Escapes.{escaped}
use Rattle.cli_transfer.proofs.escape.escape_bytes.Given as goal

-- the bytes so far, and those that are left
abbrev pub invariant-loop-byte : goal.invariant-loop-byte
invariant-loop-byte l = string_bytes l.text ++ escaped (drop l.byte-index l.bytes) ≡ escaped l.bytes
