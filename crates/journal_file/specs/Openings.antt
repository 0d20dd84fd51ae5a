-- Why a journal isn't opened, by how its file ends.
use Rattle.std.specs.Prelude.{Option, Some, None}
use Rattle.journal_file.specs.declared.ending.JournalEnding.{JournalEnding}
use Rattle.journal_file.specs.declared.ending.JournalEnding.TheVariants.{Whole, Torn, Unexplained, Foreign, Moved, Damaged}
use Rattle.journal_file.specs.declared.journal.JournalOpenFault.{JournalOpenFault}
use Rattle.journal_file.specs.declared.journal.JournalOpenFault.TheVariants as fault

-- none, where it is opened
abbrev pub refusal_of : JournalEnding → Option JournalOpenFault
refusal_of Whole = None
refusal_of Torn = None
refusal_of Unexplained = None
refusal_of (Foreign signature) = Some (fault.Foreign signature)
refusal_of (Moved place) = Some (fault.Moved place)
refusal_of (Damaged said) = Some (fault.Damaged said)
