use Rattle.std.proofs.Common.{◌≡◌, ◌+◌, ◌≤◌, map, drop, length}
use Rattle.journal_file.specs.Groups.{listed}
use Rattle.journal_remote.proofs.end.plain_count.Given as goal

-- those counted so far and those left are all
abbrev pub invariant-loop-record : goal.invariant-loop-record
invariant-loop-record l =
    record {
      count : l.count + length (listed (map (λ x. x.text.now) (drop l.record-index l.records))) ≡ length (listed (map (λ x. x.text.now) l.records));
      most : l.count ≤ l.record-index;
    }
