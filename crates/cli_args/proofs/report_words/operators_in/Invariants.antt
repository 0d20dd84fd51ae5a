use Rattle.std.proofs.Common.{◌≡◌, ◌++◌, map, length, string_bytes}
use Rattle.cli_args.specs.Reports.{operators_in}
use Rattle.cli_args.proofs.report_words.operators_in.Given as goal

-- the identifiers so far stand before those among the words that are left
abbrev pub invariant-loop-word : goal.invariant-loop-word
invariant-loop-word l = l.ids.items ++ operators_in (map string_bytes l.rest) ≡ operators_in (map string_bytes l.fn.words)

abbrev pub decreases-loop-word : goal.decreases-loop-word
decreases-loop-word l = length l.rest
