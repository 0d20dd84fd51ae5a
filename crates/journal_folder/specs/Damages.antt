-- What is wrong with a journal that ends so.
use Rattle.std.specs.Prelude.{ℕ, Option, Some, None}
use Rattle.journal_file.specs.declared.ending.JournalEnding.{JournalEnding}
use Rattle.journal_file.specs.declared.ending.JournalEnding.TheVariants as ends
use Rattle.journal_folder.specs.declared.fault.Damage.{Damage}
use Rattle.journal_folder.specs.declared.fault.Damage.TheVariants.{Lost, Moved, Foreign, Unexplained}

-- none where it is whole, or torn as a kill of the program leaves it; an unexplained tail is reported, though the
-- journal is opened and the tail is cut
abbrev pub damage_of : ℕ → JournalEnding → Option Damage
damage_of whole ends.Whole = None
damage_of whole ends.Torn = None
damage_of whole ends.Unexplained = Some (Unexplained whole)
damage_of whole (ends.Foreign signature) = Some (Foreign signature)
damage_of whole (ends.Moved place) = Some (Moved place)
damage_of whole (ends.Damaged said) = Some (Lost said)
