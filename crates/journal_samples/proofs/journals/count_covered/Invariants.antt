use Rattle.std.proofs.Common.{◌≡◌, ◌+◌, drop}
use Rattle.journal_samples.specs.Journals.{covered}
use Rattle.journal_samples.proofs.journals.count_covered.Given as goal

-- those so far, and as many more as there are among those that are left
abbrev pub invariant-loop-at : goal.invariant-loop-at
invariant-loop-at l = record {
  counted : l.count ≡ l.at-index;
  whole : l.count + covered l.last (drop l.at-index l.moments) ≡ covered l.last l.moments;
}
