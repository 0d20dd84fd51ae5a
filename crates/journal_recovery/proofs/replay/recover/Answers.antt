use Rattle.std.proofs.Common.{arith}
use Rattle.mds_request.specs.Configuration.{configuration}
use Rattle.journal_entry.specs.Entries.{entry_of}
use Rattle.journal_recovery.specs.Recovery.{server_of}
use Rattle.journal_recovery.proofs.Learning.{entry_more, stopped_at}
use Rattle.journal_recovery.proofs.replay.recover.Goals as goal

pub returns-in-Err-clause-stopped : goal.returns-in-Err-clause-stopped
returns-in-Err-clause-stopped g c =
    stopped_at entry_of (configuration c.args.config.now) c.args.entries.now c.loop-entry.entry c.in-Err.cause c.index-entries-entry.result
    (server_of c.args.room.now c.args.desks.now) (server_of c.loop-entry.room c.loop-entry.desks) (server_of c.replay_entry.new.room c.replay_entry.new.desks)
    (omega (arith, c.loop-entry-test.true)) c.index-entries-entry.is c.loop-entry.invariant c.in-Err.ensures.refused

pub loop-entry-preserved : goal.loop-entry-preserved
loop-entry-preserved g c =
    entry_more entry_of (configuration c.args.config.now) c.args.entries.now c.loop-entry.entry c.index-entries-entry.result
    (server_of c.args.room.now c.args.desks.now) (server_of c.loop-entry.room c.loop-entry.desks) (server_of c.replay_entry.new.room c.replay_entry.new.desks)
    (omega (arith, c.loop-entry-test.true)) c.index-entries-entry.is c.loop-entry.invariant c.in_default.ensures.again
