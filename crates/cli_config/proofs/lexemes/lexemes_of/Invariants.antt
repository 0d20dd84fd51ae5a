use Rattle.std.proofs.Common.{◌≡◌, ◌++◌, drop}
use Rattle.cli_config.specs.Lexemes.{marks_from, marks_of}
use Rattle.cli_config.proofs.lexemes.lexemes_of.Given as goal

-- the lexemes so far and those of the rest are those of the text
abbrev pub invariant-loop-at : goal.invariant-loop-at
invariant-loop-at l = l.marks.items ++ marks_from l.mode l.at (drop l.at l.fn.text) ≡ marks_of l.fn.text
