use Rattle.std.proofs.Common.{◌≡◌, ◌≤◌, map, length, string_bytes}
use Rattle.cli_args.specs.Transfers.{is_dry}
use Rattle.cli_args.proofs.transfers.is_dry.Given as goal

-- the last word is among those that are left
abbrev pub invariant-loop-word : goal.invariant-loop-word
invariant-loop-word l = record {
  last : is_dry (map string_bytes l.rest) ≡ is_dry (map string_bytes l.fn.words);
  fewer : length l.rest ≤ length l.fn.words;
}

abbrev pub decreases-loop-word : goal.decreases-loop-word
decreases-loop-word l = length l.rest
