use Rattle.std.proofs.Common.{◌+◌, arith}
use Rattle.journal_file.proofs.Marked.{mark_length}
use Rattle.journal_file.specs.declared.record.TheConstants.{HEAD}
use Rattle.journal_commit.proofs.Held.{extent_held}
use Rattle.journal_commit.proofs.laws.reservations_are_enough.Goals as goal

pub returns : goal.returns
returns c position synced text texts = omega (arith, mark_length (position + HEAD) synced, extent_held texts)
