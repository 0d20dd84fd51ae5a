use Rattle.std.proofs.Common.{◌≡◌, ◌++◌, take}
use Rattle.journal_folder.specs.Script.{blanked}
use Rattle.journal_folder.proofs.script.push_blanked.Given as goal

-- what was added so far
abbrev pub invariant-loop-byte : goal.invariant-loop-byte
invariant-loop-byte l = l.line.items ≡ l.initial.line.items ++ blanked (take l.byte-index l.text)
