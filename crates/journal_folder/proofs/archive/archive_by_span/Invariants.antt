use Rattle.std.proofs.Common.{ℕ, List}
use Rattle.journal_folder.proofs.archive.archive_by_span.Given as goal

-- what the archive had stays there
abbrev pub invariant-loop-number : goal.invariant-loop-number
invariant-loop-number g l =
    (name text : List ℕ) → g.A.Archive.has l.fn.archive name text → g.A.Archive.has l.archive name text
