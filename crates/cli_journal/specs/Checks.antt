-- The end of a journal that is checked, in words, and its fault.
use Rattle.std.specs.Prelude.{ℕ, List, codes, Option, Some, None, Result, Ok, Err}
use Rattle.journal_file.specs.declared.ending.JournalEnding.{JournalEnding}
use Rattle.journal_file.specs.declared.ending.JournalEnding.TheVariants as ends
use Rattle.journal_folder.specs.declared.fault.Damage.{Damage}
use Rattle.journal_folder.specs.declared.fault.FolderFault.TheVariants.{Damaged}
use Rattle.cli_journal.specs.declared.exit_cause.ExitCause.{ExitCause}
use Rattle.cli_journal.specs.declared.exit_cause.ExitCause.TheVariants.{Folder}

-- where it is opened with bytes behind its records, these are kept when they are cut
abbrev pub end_of : JournalEnding → List ℕ
end_of ends.Whole = codes "whole"
end_of ends.Torn =
    codes "torn: these begin a record, which a kill leaves, or a server at work; serve and thin keep them in journal.cut and cut them off"
end_of ends.Unexplained =
    codes "unexplained: no kill leaves these, a loss of power may; serve and thin keep them in journal.cut and cut them off"
end_of (ends.Foreign signature) = codes "no journal"
end_of (ends.Moved place) = codes "damaged"
end_of (ends.Damaged said) = codes "damaged"

-- the fault with this damage; none without damage
abbrev pub refused_for : Option Damage → Result (Unit {0}) ExitCause
refused_for None = Ok tt
refused_for (Some damage) = Err (Folder (Damaged damage))
