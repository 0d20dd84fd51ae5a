use Rattle.std.proofs.Common.{◌≡◌, List, ℕ, ◌+◌, ◌++◌, ◌≤◌, map, length}
use Rattle.journal_file.specs.Sum.{sums_over}
use Rattle.journal_file.specs.Records.{Reads, extent, offsets_from}
use Rattle.journal_file.proofs.reading.read.Given as goal

-- whatever is read from the rest is read after what was found; what was found takes the bytes before the rest
abbrev pub invariant-loop-text : goal.invariant-loop-text
invariant-loop-text l =
    record {
      texts : (more : List (List ℕ)) → Reads l.sum l.rest more → Reads l.fn.before l.fn.bytes (map (λ x. x.text.now) l.records.items ++ more);
      offsets : map (λ x. x.offset) l.records.items ≡ offsets_from 0 (map (λ x. x.text.now) l.records.items);
      whole : length l.fn.bytes ≡ extent (map (λ x. x.text.now) l.records.items) + length l.rest;
      sum : l.sum ≡ sums_over l.fn.before (map (λ x. x.text.now) l.records.items);
    }

abbrev pub decreases-loop-text : goal.decreases-loop-text
decreases-loop-text l = length l.rest
