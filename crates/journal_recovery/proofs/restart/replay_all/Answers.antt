use Rattle.std.proofs.Common.{map, ap, subst, ◌∙◌}
use Rattle.mds_request.specs.Configuration.{configuration}
use Rattle.journal_entry.specs.Entries.{entry_of}
use Rattle.journal_recovery.specs.Recovery.{server_of, IsStopped}
use Rattle.journal_recovery.proofs.restart.replay_all.Goals as goal

pub returns-clause-refused : goal.returns-clause-refused
returns-clause-refused g c =
    let next = server_of c.recover.new.room c.recover.new.desks in (
      next,
      subst (λ k. IsStopped k (map entry_of c.args.entries.now) c.in-Err.fault (server_of c.args.room.now c.args.desks.now) next)
          (ap configuration c.deref.ensures ∙ c.in-Ok.ensures) c.in-Err.ensures.stopped,
    )
