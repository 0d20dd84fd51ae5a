use Rattle.std.proofs.Common.{◌≡◌, ◌++◌, map, take}
use Rattle.mds_request.specs.Configuration.{operator}
use Rattle.journal_entry.specs.Entries.{entry_of}
use Rattle.journal_compaction.specs.Questions.{fleets}
use Rattle.journal_compaction.proofs.questions.add_fleets.Given as goal

-- what was added so far
abbrev pub invariant-loop-operator : goal.invariant-loop-operator
invariant-loop-operator l =
    map entry_of l.list.items ≡ map entry_of l.initial.list.items ++ fleets l.at (map operator (take l.operator-index l.operators))
