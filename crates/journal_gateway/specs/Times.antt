-- How much time is left.
use Rattle.std.specs.Prelude.{◌≡◌, ◌+◌, ◌<◌, ◌≤◌, Option, Some, None}
use Rattle.std.specs.Duration.{as_nanos}
use Rattle.std.specs.declared.time.Duration.{Duration}

-- up to a moment: none from there on
abbrev pub IsLeft : (until now : Duration) → Option Duration → Type 0
IsLeft until now (Some left) = (0 < as_nanos left) × (as_nanos now + as_nanos left ≡ as_nanos until)
IsLeft until now None = as_nanos until ≤ as_nanos now
