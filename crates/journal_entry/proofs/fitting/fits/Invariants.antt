use Rattle.std.proofs.Common.{◌≡◌, map, drop}
use Rattle.mds_request.specs.Configuration.{configuration}
use Rattle.journal_entry.specs.Heads.{share_of, unfit}
use Rattle.journal_entry.proofs.fitting.fits.Given as goal

abbrev pub invariant-loop-share : goal.invariant-loop-share
invariant-loop-share l = unfit (configuration l.config) (map share_of l.shares) ≡ unfit (configuration l.config) (map share_of (drop l.share-index l.shares))
