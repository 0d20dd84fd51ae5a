-- Log ends: where a list of payloads ends in its file, which distinguishes it from other lists, assuming no checksum
-- collision.
use Rattle.std.specs.Prelude.{◌≡◌, ℕ, List, length}
use Rattle.journal_file.specs.Sum.{sums_over}
use Rattle.journal_file.specs.Records.{extent}
use Rattle.journal_file.specs.Groups.{listed}
use Rattle.journal_file.specs.declared.log_end.LogEnd.{LogEnd}

-- The records of some payloads that are listed so end at the log end's position with its checksum, and the list has as
-- many payloads as the log end says.
pub record IsSealed (seal : LogEnd) (list : List (List ℕ)) : Type 0 where
  pub texts : List (List ℕ)
  pub are_listed : listed texts ≡ list
  pub summed : seal.sum ≡ sums_over 0 texts
  pub ends : seal.position ≡ extent texts
  pub counted : seal.count ≡ length list
