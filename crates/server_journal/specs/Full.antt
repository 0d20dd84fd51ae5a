-- When it is reported that the disk is full.
use Rattle.std.specs.Prelude.{ℕ, Bool, true, false, nat_le, if◌then◌else◌}
use Rattle.server_journal.specs.declared.reporting_space.TheConstants.{PLENTY}

-- the disk counts as full, after so many bytes were set aside or refused: once less than `PLENTY` was refused, until
-- `PLENTY` is set aside
abbrev pub is_full : (was_full : Bool) → (bytes : ℕ) → (is_done : Bool) → Bool
is_full was_full bytes is_done =
    if is_done then (if nat_le PLENTY bytes then false else was_full)
    else (if nat_le PLENTY bytes then was_full else true)

-- it has just become full
abbrev pub is_told : (was_full is_full : Bool) → Bool
is_told was_full is_full = if was_full then false else is_full
