use Rattle.std.proofs.Common.{◌≡◌, map, take}
use Rattle.journal_folder.proofs.survey.copies_of.Given as goal

-- the copies so far
abbrev pub invariant-loop-text : goal.invariant-loop-text
invariant-loop-text l = map (λ v. v.items) l.texts.items ≡ map (λ t. t.now) (take l.text-index l.lent)
