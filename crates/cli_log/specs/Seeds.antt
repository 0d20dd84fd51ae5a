-- Which journals are put into etcd, and which registers are claimed for one.
use Rattle.std.specs.Prelude.{◌≡◌, ◌<◌, ℕ, List, length, Option, None, if◌then◌else◌}
use Rattle.journal_file.specs.Records.{Reads, extent}
use Rattle.journal_register.specs.Order.{is_owner}
use Rattle.journal_register.specs.Kinds.{claim_of}
use Rattle.journal_register.specs.declared.owner.Owner.{Owner}
use Rattle.journal_register.specs.declared.owner.TheConstants.{NOBODY}
use Rattle.journal_register.specs.declared.transaction.Transaction.{Transaction}
use Rattle.cli_log.specs.declared.end.LogCommandEnd.{LogCommandEnd}
use Rattle.cli_log.specs.declared.end.LogCommandEnd.TheVariants.{NoMemory, NoJournal, Damaged}

-- the bytes are records, and nothing stands behind the last
pub record AreWhole (bytes : List ℕ) : Type 0 where
  pub texts : List (List ℕ)
  pub are_read : Reads 0 bytes texts
  pub are_all : extent texts ≡ length bytes

-- bytes stand behind the records that are read
pub record AreTorn (bytes : List ℕ) : Type 0 where
  pub texts : List (List ℕ)
  pub are_read : Reads 0 bytes texts
  pub are_less : extent texts < length bytes

-- why bytes aren't put there
abbrev pub Declines : List ℕ → LogCommandEnd → Type 0
Declines bytes NoMemory = Unit {0}
Declines bytes NoJournal = length bytes ≡ 0
Declines bytes Damaged = AreTorn bytes
Declines bytes end = ⊥

-- the claim of a register that nobody has claimed yet
abbrev pub first_claim : Owner → ℕ → Option Transaction
first_claim seen nonce = if is_owner seen NOBODY then claim_of seen nonce else None
