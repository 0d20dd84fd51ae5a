use Rattle.std.proofs.Common.{◌≡◌, ◌++◌, drop, string_bytes}
use Rattle.cli_config.specs.Paths.{shown}
use Rattle.cli_config.proofs.paths.add_printable.Given as goal

-- the bytes so far, and those that are left
abbrev pub invariant-loop-byte : goal.invariant-loop-byte
invariant-loop-byte l = string_bytes l.text ++ shown (drop l.byte-index l.fn.name) ≡ string_bytes l.fn.text ++ shown l.fn.name
