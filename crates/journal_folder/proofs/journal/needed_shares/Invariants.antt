use Rattle.std.proofs.Common.{◌≡◌, ◌++◌, map, drop}
use Rattle.journal_entry.specs.Heads.{share_of}
use Rattle.journal_folder.specs.Choosing.{needed}
use Rattle.journal_folder.proofs.journal.needed_shares.Given as goal

-- those taken so far and those left are all
abbrev pub invariant-loop-share : goal.invariant-loop-share
invariant-loop-share l =
    map share_of l.kept.items ++ needed l.dropped (map share_of (drop l.share-index l.shares)) ≡ needed l.dropped (map share_of l.shares)
