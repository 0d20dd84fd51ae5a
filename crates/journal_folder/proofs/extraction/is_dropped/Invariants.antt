use Rattle.std.proofs.Common.{◌≡◌, take, false, bytes_eq}
use Rattle.std.specs.List.{list_any}
use Rattle.journal_folder.proofs.extraction.is_dropped.Given as goal

-- none so far is the one that is looked for
abbrev pub invariant-loop-other : goal.invariant-loop-other
invariant-loop-other l = list_any (bytes_eq l.id) (take l.other-index l.dropped) ≡ false
