use Rattle.std.proofs.Common.{◌≡◌, map, drop}
use Rattle.journal_file.specs.Groups.{are_taken}
use Rattle.journal_file.proofs.group.are_taken.Given as goal

-- whether the rest is accepted decides
abbrev pub invariant-loop-text : goal.invariant-loop-text
invariant-loop-text l = are_taken (map (λ v. v.items) (drop l.text-index l.texts)) ≡ are_taken (map (λ v. v.items) l.texts)
