-- When the progress of replaying the journal is reported.
use Rattle.std.specs.Prelude.{ℕ, ◌%◌, ◌==◌, Bool}
use Rattle.server_journal.specs.declared.progress.TheConstants.{STEP}

-- each so many entries
abbrev pub is_told : ℕ → Bool
is_told entries = entries % STEP == 0
