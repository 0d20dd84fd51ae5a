use Rattle.std.proofs.Common.{◌≡◌, ◌++◌, ◌+◌, ◌≤◌, length}
use Rattle.mds_text.specs.Quoting.{quoted_count, quoted_text}
use Rattle.mds_text.proofs.quote.quote_numbers.Given as goal

-- what was written and what is left are the whole text
abbrev pub invariant-loop-first : goal.invariant-loop-first
invariant-loop-first l = record {
  written : l.out.items ++ quoted_text l.rest ≡ quoted_text l.text;
  counted : l.count + quoted_count l.rest ≡ quoted_count l.text;
  few : l.count + length l.rest ≤ length l.text;
}

abbrev pub decreases-loop-first : goal.decreases-loop-first
decreases-loop-first l = length l.rest
