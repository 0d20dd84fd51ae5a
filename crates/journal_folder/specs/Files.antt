-- Whose the name is by which a file was opened.
use Rattle.std.specs.Prelude.{◌==◌, ◌&&◌, if◌then◌else◌}
use Rattle.journal_folder.specs.declared.files.Identity.{Identity}
use Rattle.journal_folder.specs.declared.files.PathEntry.{PathEntry}
use Rattle.journal_folder.specs.declared.files.PathEntry.TheVariants as entries
use Rattle.journal_folder.specs.declared.files.NameOwner.{NameOwner}
use Rattle.journal_folder.specs.declared.files.NameOwner.TheVariants.{Opened, Another, NoFile}

-- that file's only where the file that stands there has the same device and inode number
abbrev pub owner_of : Identity → PathEntry → NameOwner
owner_of opened entries.Nothing = Another
owner_of opened (entries.File found) = if (found.device == opened.device) && (found.number == opened.number) then Opened else Another
owner_of opened entries.Other = NoFile
