-- Texts of days, clocks and moments, put together.
use Rattle.std.proofs.Common.{◌≡◌, ℕ, ◌+◌, ◌/◌, ◌%◌, List, [], ◌++◌, pos, ◌-ℤ◌, ap, subst, ◌∙◌}
use Rattle.jiff_core.specs.Date.{epoch_day}
use Rattle.jiff_core.specs.declared.civil.date.Date.{Date}
use Rattle.mds_match.specs.Zone.{ZoneKind}
use Rattle.cli_calendar.specs.Clocks.{clock_at}
use Rattle.cli_calendar.specs.Texts.{IsClock, IsDay, IsLocal, IsUtc, behind_date, date_text, local_end, utc_end}

pub day_made : (day : ℕ) (d : Date) (old text : List ℕ) → epoch_day d ≡ pos day -ℤ pos 3 → old ≡ [] → text ≡ old ++ date_text d → IsDay day text
unfolding IsDay
day_made day d old text is empty made = (d, is, made ∙ ap (λ xs. xs ++ date_text d) empty)

pub clock_made : (clock : ℕ) (day text : List ℕ) → IsDay (clock / 86400) day → text ≡ day ++ behind_date (clock % 86400) → IsClock clock text
unfolding IsClock
clock_made clock day text is made = (day, is, made)

pub utc_made : (t millis : ℕ) (clock text : List ℕ) → millis ≡ t → IsClock (millis / 1000 + 259200) clock → text ≡ clock ++ utc_end millis → IsUtc t text
unfolding IsUtc
utc_made t millis clock text same is made =
    (clock, subst (λ n. IsClock (n / 1000 + 259200) clock) same is, made ∙ ap (λ n. clock ++ utc_end n) same)

pub local_made : (zone : ZoneKind) (t millis shown : ℕ) (clock text : List ℕ) → millis ≡ t → shown ≡ clock_at zone t → IsClock shown clock → text ≡ clock ++ local_end shown millis → IsLocal zone t text
unfolding IsLocal
local_made zone t millis shown clock text same shows is made =
    (clock, subst (λ n. IsClock n clock) shows is, made ∙ ap (λ n. clock ++ local_end n millis) shows ∙ ap (λ n. clock ++ local_end (clock_at zone t) n) same)
