-- Where a list ends behind more records.
use Rattle.std.specs.Prelude.{◌≡◌, ℕ, ◌+◌, List, length}
use Rattle.journal_file.specs.declared.log_end.LogEnd.{LogEnd}
use Rattle.journal_file.specs.Sum.{sums_over}
use Rattle.journal_file.specs.Records.{Reads, extent}
use Rattle.journal_file.specs.Groups.{listed}

-- The bytes behind a log end are whole records, and with them the list ends there.
pub record EndsBehind (from : LogEnd) (bytes : List ℕ) (to : LogEnd) : Type 0 where
  pub texts : List (List ℕ)
  pub are_read : Reads from.sum bytes texts
  pub are_whole : extent texts ≡ length bytes
  pub position : to.position ≡ from.position + length bytes
  pub sum : to.sum ≡ sums_over from.sum texts
  pub count : to.count ≡ from.count + length (listed texts)

-- where a list of no payloads ends
abbrev pub no_end : LogEnd
no_end = record { position = 0; sum = 0; count = 0 }
