use Rattle.std.specs.Prelude.{[]}
use Rattle.tests_journal.specs.declared.commits.TheConstants.{AUTHOR}
use Rattle.tests_journal.proofs.commits.read_over_journal.Given as goal

-- the book of the log that was just opened and has nothing yet, all of whose payloads are the author's
abbrev pub ghosts-read_twice : goal.ghosts-read_twice
ghosts-read_twice g a = record { book = a.opened.seen.book; client_of = λ text. AUTHOR; first = [] }
