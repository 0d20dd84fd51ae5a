-- The windows and local times of the worked examples among the laws.
use Rattle.std.specs.Prelude.{ℕ, ◌+◌, ◌*◌, [], ◌∷◌, true, false}
use Rattle.mds_policy.specs.declared.rule.Window.{Window}
use Rattle.mds_match.specs.declared.local.Local.{Local}

-- a weekday, 0 for Sunday, and a time of the day
abbrev pub at : ℕ → ℕ → ℕ → ℕ → Local
at weekday hour minute second = record { weekday = weekday; second = 3600 * hour + 60 * minute + second }

-- Fridays from 22:00:00 to 05:00:00
abbrev pub friday_night : Window
friday_night = record { start = 79200; end = 18000; days = false ∷ false ∷ false ∷ false ∷ false ∷ true ∷ false ∷ [] }

-- every day from 00:00:00 to 23:59:00
abbrev pub until_last_minute : Window
until_last_minute = record { start = 0; end = 86340; days = true ∷ true ∷ true ∷ true ∷ true ∷ true ∷ true ∷ [] }

-- every day from 00:00:00 to 23:59:59
abbrev pub all_day : Window
all_day = record { start = 0; end = 86399; days = true ∷ true ∷ true ∷ true ∷ true ∷ true ∷ true ∷ [] }
