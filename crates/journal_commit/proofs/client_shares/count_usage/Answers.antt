use Rattle.std.proofs.Common.{ap, arith}
use Rattle.journal_commit.specs.declared.decisions.Usage.{Usage}
use Rattle.journal_commit.specs.Shares.{texts_kept, bytes_kept}
use Rattle.journal_commit.specs.Tables.{usage_of}
use Rattle.journal_commit.proofs.Sharing.{texts_fit, bytes_fit, front_le, three_parts, nobody}
use Rattle.journal_commit.proofs.client_shares.count_usage.Goals as goal

pub usage-usage-requires-clause-texts : goal.usage-usage-requires-clause-texts
usage-usage-requires-clause-texts c = texts_fit c.args.shares.now c.loop-share.share-index _ (omega arith) c.requires

pub usage-usage-requires-clause-bytes : goal.usage-usage-requires-clause-bytes
usage-usage-requires-clause-bytes c = bytes_fit c.args.shares.now c.loop-share.share-index _ (omega arith) c.requires

pub overflow_add-without : goal.overflow_add-without
overflow_add-without c = omega (arith, front_le texts_kept usage_of c.args.shares.now c.loop-share.share-index, c.requires.0)

pub overflow_add-all : goal.overflow_add-all
overflow_add-all c =
    let own = ap (λ (u : Usage). u.texts) c.usage-usage.ensures in
    omega (arith, own, three_parts texts_kept usage_of c.args.shares.now c.loop-share.share-index nobody (omega arith), c.requires.0)

pub overflow_add-all-else-eq : goal.overflow_add-all-else-eq
overflow_add-all-else-eq c =
    let own = ap (λ (u : Usage). u.bytes) c.usage-usage.ensures in
    omega (arith, own, three_parts bytes_kept usage_of c.args.shares.now c.loop-share.share-index nobody (omega arith), c.requires.1)
