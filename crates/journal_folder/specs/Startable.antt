-- The payloads of a journal's bytes, and its entries.
use Rattle.std.specs.Prelude.{◌≡◌, ℕ, List, drop, map}
use Rattle.journal_entry.specs.Entries.{Entry, entry_text}
use Rattle.journal_file.specs.Groups.{listed}
use Rattle.journal_file.specs.Records.{Reads}

-- these are the payloads of the whole records with which the bytes begin
pub record ArePayloads (bytes : List ℕ) (texts : List (List ℕ)) : Type 0 where
  pub all : List (List ℕ)
  pub reads : Reads 0 bytes all
  pub listed_are : texts ≡ listed all

-- these are the entries behind the first payload, which is the head
pub record HasEntries (bytes : List ℕ) (entries : List Entry) : Type 0 where
  pub texts : List (List ℕ)
  pub payloads : ArePayloads bytes texts
  pub behind_head : map entry_text entries ≡ drop 1 texts
