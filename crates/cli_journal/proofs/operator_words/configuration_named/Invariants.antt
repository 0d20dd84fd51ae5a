use Rattle.std.proofs.Common.{◌≡◌, map, length, string_bytes}
use Rattle.cli_journal.specs.OperatorWords.{configuration_named}
use Rattle.cli_journal.proofs.operator_words.configuration_named.Given as goal

-- it is among the words that are left, if it is among all
abbrev pub invariant-loop-word : goal.invariant-loop-word
invariant-loop-word l = configuration_named (map string_bytes l.rest) ≡ configuration_named (map string_bytes l.fn.words)

abbrev pub decreases-loop-word : goal.decreases-loop-word
decreases-loop-word l = length l.rest
