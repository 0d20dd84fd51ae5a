use Rattle.std.proofs.Common.{sym, subst}
use Rattle.journal_file.specs.Records.{Fits}
use Rattle.journal_file.proofs.Marked.{mark_fits}
use Rattle.journal_file.proofs.marks.push_mark.Goals as goal

pub push-requires : goal.push-requires
push-requires c = rw (c.deref.ensures.value, c.in_ok-mark.ensures) (mark_fits _ _)
