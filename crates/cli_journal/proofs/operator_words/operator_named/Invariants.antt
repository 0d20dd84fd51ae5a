use Rattle.std.proofs.Common.{◌≡◌, map, length, string_bytes}
use Rattle.cli_journal.specs.OperatorWords.{operator_named}
use Rattle.cli_journal.proofs.operator_words.operator_named.Given as goal

-- it is among the words that are left, if it is among all
abbrev pub invariant-loop-word : goal.invariant-loop-word
invariant-loop-word l = operator_named (map string_bytes l.rest) ≡ operator_named (map string_bytes l.fn.words)

abbrev pub decreases-loop-word : goal.decreases-loop-word
decreases-loop-word l = length l.rest
