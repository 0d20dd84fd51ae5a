use Rattle.std.proofs.Common.{map, ap, ◌∙◌}
use Rattle.std.proofs.lemmas.List.{map_push}
use Rattle.journal_folder.specs.Compactions.{compaction_of}
use Rattle.journal_folder.proofs.compactions.push_line.Goals as goal

pub returns-in-Ok : goal.returns-in-Ok
returns-in-Ok c =
    let is = rw c.in-Ok-Some.field-0-is at c.in-Ok-Some.ensures in (
      compaction_of c.in-Ok-Some.compaction,
      is,
      ap (map compaction_of) c.in-Ok.ensures.items ∙ map_push compaction_of c.args.compactions.now.items c.in-Ok-Some.compaction,
    )
