use Rattle.std.proofs.Common.{arith}
use Rattle.journal_commit.specs.Tables.{holding}
use Rattle.journal_commit.proofs.Sharing.{bytes_held, bytes_in_le}
use Rattle.journal_commit.proofs.backlog.CommitBacklog.reserve_usage.Goals as goal

pub take-requires-clause-bounded : goal.take-requires-clause-bounded
take-requires-clause-bounded g c =
    let each = c.args.self.now.shares.each.items in
    let known = c.has_share.ensures.known c.if-not-has_share.false in
    let shared = c.has_share.ensures.shared c.if-not-has_share.false in
    omega (arith, c.args.self.now.used, bytes_held each c.args.client c.args.more known, bytes_in_le (holding each c.args.client c.args.more) shared)
