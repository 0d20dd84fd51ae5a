use Rattle.std.proofs.Common.{◌≡◌, ◌++◌, map, drop}
use Rattle.journal_file.specs.Groups.{listed}
use Rattle.journal_folder.proofs.survey.plain_texts.Given as goal

-- those listed so far and those left are all
abbrev pub invariant-loop-record : goal.invariant-loop-record
invariant-loop-record l =
    map (λ t. t.now) l.texts.items ++ listed (map (λ x. x.text.now) (drop l.record-index l.records))
    ≡ listed (map (λ x. x.text.now) l.records)
