use Rattle.std.proofs.Common.{◌≡◌, map, length, string_bytes}
use Rattle.cli_args.specs.Options.{value_of}
use Rattle.cli_args.proofs.options.value_of.Given as goal

-- the value is among the words that are left, if it is among all
abbrev pub invariant-loop-word : goal.invariant-loop-word
invariant-loop-word l = value_of l.name (map string_bytes l.rest) ≡ value_of l.name (map string_bytes l.fn.words)

abbrev pub decreases-loop-word : goal.decreases-loop-word
decreases-loop-word l = length l.rest
