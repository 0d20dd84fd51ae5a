use Rattle.std.proofs.Common.{◌≡◌, drop}
use Rattle.std.specs.List.{list_all}
use Rattle.journal_folder.specs.Compactions.{is_name_byte}
use Rattle.journal_folder.proofs.compactions.are_name_bytes.Given as goal

-- each so far may stand in a name
abbrev pub invariant-loop-byte : goal.invariant-loop-byte
invariant-loop-byte l = list_all is_name_byte (drop l.byte-index l.name) ≡ list_all is_name_byte l.name
