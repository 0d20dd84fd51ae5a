use Rattle.std.proofs.Common.{arith}
use Rattle.journal_commit.proofs.Sharing.{texts_held_le, nobody}
use Rattle.journal_commit.proofs.client_shares.count_reserved.Goals as goal

pub overflow_add-held : goal.overflow_add-held
overflow_add-held c = omega (arith, texts_held_le c.args.shares.now c.loop-share.share-index nobody (omega arith) c.requires)
