use Rattle.std.proofs.Common.{ap, arith}
use Rattle.journal_commit.specs.declared.client_shares.ClientShare.{ClientShare}
use Rattle.journal_commit.proofs.Sharing.{held_fits, share_read}
use Rattle.journal_commit.proofs.client_shares.ClientShares.add_reserved.Goals as goal

pub overflow_add-share : goal.overflow_add-share
overflow_add-share c =
    let there = share_read c.args.self.now.each.items c.args.client c.index_mut-share.result.now c.requires.known c.index_mut-share.ensures.value in
    let fits = held_fits c.args.self.now.each.items c.args.client c.args.more c.requires.known c.requires.shared in
    omega (arith, ap (λ (s : ClientShare). s.held.texts) there, fits.0)

pub overflow_add-share-2 : goal.overflow_add-share-2
overflow_add-share-2 c =
    let there = share_read c.args.self.now.each.items c.args.client c.index_mut-share.result.now c.requires.known c.index_mut-share.ensures.value in
    let fits = held_fits c.args.self.now.each.items c.args.client c.args.more c.requires.known c.requires.shared in
    omega (arith, ap (λ (s : ClientShare). s.held.bytes) there, fits.1)
