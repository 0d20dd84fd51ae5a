use Rattle.std.proofs.Common.{◌≡◌, ◌++◌, map, drop, true}
use Rattle.journal_file.specs.Sum.{sums_over}
use Rattle.journal_file.specs.Records.{written}
use Rattle.journal_file.specs.Groups.{are_taken, group_of}
use Rattle.journal_file.proofs.group.group_of.Given as goal

-- the records written so far and those left are all
abbrev pub invariant-loop-text : goal.invariant-loop-text
invariant-loop-text l =
    record {
      taken : are_taken (map (λ v. v.items) (drop l.text-index l.texts)) ≡ true;
      bytes : l.bytes.items ++ written l.sum (map (λ v. v.items) (drop l.text-index l.texts)) ≡ written l.fn.before (group_of l.fn.position l.fn.synced (map (λ v. v.items) l.fn.texts));
      sum : sums_over l.sum (map (λ v. v.items) (drop l.text-index l.texts)) ≡ sums_over l.fn.before (group_of l.fn.position l.fn.synced (map (λ v. v.items) l.fn.texts));
    }
