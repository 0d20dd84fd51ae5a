use Rattle.std.proofs.Common.{◌≡◌, false, drop}
use Rattle.cli_timezone.specs.Names.{are_parts}
use Rattle.cli_timezone.proofs.name.are_parts.Given as goal

-- the rest decides as the whole does
abbrev pub invariant-loop-byte : goal.invariant-loop-byte
invariant-loop-byte l = are_parts l.begun (drop l.byte-index l.text) ≡ are_parts false l.fn.text
