use Rattle.std.proofs.Common.{◌≡◌, ◌≤◌, take}
use Rattle.std.specs.Prelude.{vec_capacity}
use Rattle.mds_catalog.specs.Publication.{publications_in}
use Rattle.mds_catalog.proofs.sharing.share_batches.Given as goal

-- those of the batches before this one, and the room that was asked for
abbrev pub invariant-loop-batch : goal.invariant-loop-batch
invariant-loop-batch l = (publications_in l.shared.items ≡ publications_in (take l.batch-index l.batches)) × (l.most ≤ vec_capacity l.shared)
