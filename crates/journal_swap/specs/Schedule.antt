-- When a journal is compacted.
use Rattle.journal_swap.specs.declared.schedule.TheConstants.{SMALL_LAG}
use Rattle.std.specs.Prelude.{nat_le, ℕ, ◌+◌, ◌*◌, ◌^◌, ◌-◌, ◌==◌, ◌&&◌, Bool, not, min, nat_lt}

-- a journal of so many bytes is to be compacted; never, where the least growth is 0
abbrev pub is_due : (at_least due bytes : ℕ) → Bool
is_due at_least due bytes = not (at_least == 0) && nat_lt due bytes

-- a journal that was compacted to so many bytes is compacted again beyond three times as many plus the least growth
abbrev pub due_after : (at_least bytes : ℕ) → ℕ
due_after at_least bytes = min (2 ^ 64 - 1) (3 * bytes + at_least)

-- one that couldn't be compacted is tried again beyond twice as many bytes
abbrev pub due_again : (bytes : ℕ) → ℕ
due_again bytes = min (2 ^ 64 - 1) (2 * bytes)

-- few enough bytes that a compacted log may lack them when it takes the log's place
abbrev pub is_little : (bytes : ℕ) → Bool
is_little bytes = nat_le bytes SMALL_LAG
