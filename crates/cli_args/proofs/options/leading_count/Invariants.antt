use Rattle.std.proofs.Common.{◌≡◌, ◌+◌, map, drop, string_bytes}
use Rattle.cli_args.specs.Options.{leading_count}
use Rattle.cli_args.proofs.options.leading_count.Given as goal

-- the words so far are before the first option, and as many more as are so among those that are left
abbrev pub invariant-loop-word : goal.invariant-loop-word
invariant-loop-word l = record {
  counted : l.count ≡ l.word-index;
  whole : l.count + leading_count (map string_bytes (drop l.word-index l.words)) ≡ leading_count (map string_bytes l.words);
}
