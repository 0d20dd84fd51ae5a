use Rattle.std.proofs.Common.{map, take}
use Rattle.mds_request.specs.Configuration.{configuration}
use Rattle.journal_entry.specs.Entries.{entry_of}
use Rattle.journal_recovery.specs.Recovery.{AreAnswered, server_of}
use Rattle.journal_recovery.proofs.replay.recover.Given as goal

abbrev pub invariant-loop-entry : goal.invariant-loop-entry
invariant-loop-entry g l = AreAnswered (configuration l.config) (map entry_of (take l.entry l.entries)) (server_of l.fn.room l.fn.desks) (server_of l.room l.desks)
