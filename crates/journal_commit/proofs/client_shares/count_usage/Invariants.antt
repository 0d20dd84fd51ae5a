use Rattle.std.proofs.Common.{◌≡◌, ◌+◌, ◌*◌, map, sum_by, take}
use Rattle.journal_commit.specs.Shares.{texts_kept, bytes_kept}
use Rattle.journal_commit.specs.Tables.{usage_of}
use Rattle.journal_commit.specs.declared.decisions.TheConstants.{LEAST_BYTES}
use Rattle.journal_commit.proofs.client_shares.count_usage.Given as goal

-- what those counted so far take up
abbrev pub invariant-loop-share : goal.invariant-loop-share
invariant-loop-share l = record {
  texts : l.all.texts + l.without ≡ sum_by texts_kept (map usage_of (take l.share-index l.shares));
  bytes : l.all.bytes + l.without * LEAST_BYTES ≡ sum_by bytes_kept (map usage_of (take l.share-index l.shares));
}
