use Rattle.std.specs.Prelude.{[]}
use Rattle.tests_journal.proofs.rounds.rounds_over_journal.Given as goal

-- the book of the log that was just opened and has nothing yet
abbrev pub ghosts-serve_rounds : goal.ghosts-serve_rounds
ghosts-serve_rounds g a = record { book = a.opened.seen.book; client_of = λ text. 0; first = [] }
