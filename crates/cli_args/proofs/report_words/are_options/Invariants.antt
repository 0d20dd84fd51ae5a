use Rattle.std.proofs.Common.{◌≡◌, map, length, string_bytes}
use Rattle.cli_args.specs.Reports.{are_options}
use Rattle.cli_args.proofs.report_words.are_options.Given as goal

-- all are options, if the words that are left are
abbrev pub invariant-loop-word : goal.invariant-loop-word
invariant-loop-word l = are_options (map string_bytes l.rest) ≡ are_options (map string_bytes l.fn.words)

abbrev pub decreases-loop-word : goal.decreases-loop-word
decreases-loop-word l = length l.rest
