use Rattle.std.proofs.Common.{◌≡◌, take}
use Rattle.journal_commit.specs.Tables.{texts_held}
use Rattle.journal_commit.proofs.client_shares.count_reserved.Given as goal

-- the reservations of those counted so far
abbrev pub invariant-loop-share : goal.invariant-loop-share
invariant-loop-share l = l.held ≡ texts_held (take l.share-index l.shares)
