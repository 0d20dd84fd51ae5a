-- The last spell in which a rule was violated: from when to when it was so whenever it was open. A rule that is closed is
-- neither violated nor kept.
use Rattle.std.specs.Prelude.{ℕ, ◌==◌, List, Bool, true, not, ◌&&◌, nat_le, nat_lt, filter, fold, is_some, if◌then◌else◌, Option, Some, None}
use Rattle.std.specs.List.{list_any}
use Rattle.cli_report.specs.declared.days.DaySample.{DaySample}
use Rattle.cli_report.specs.declared.reported.ReportSpan.{ReportSpan}
use Rattle.cli_report.specs.declared.since.Spell.{Spell}
use Rattle.cli_report.specs.declared.since.SpellEnd.{SpellEnd}
use Rattle.cli_report.specs.declared.since.SpellEnd.TheVariants.{Present, Closed, Over}

abbrev pub is_kept : DaySample → Bool
is_kept s = s.judged && not s.violated

-- the later one of two moments, and the earlier one, of which the first may be none
abbrev pub later : Option ℕ → ℕ → ℕ
later None t = t
later (Some u) t = if nat_lt t u then u else t

abbrev pub earlier : Option ℕ → ℕ → ℕ
earlier None t = t
earlier (Some u) t = if nat_lt u t then u else t

-- the latest moment at which the rule was kept
abbrev pub kept_by : Option ℕ → DaySample → Option ℕ
kept_by latest s = if is_kept s then Some (later latest s.at) else latest

abbrev pub last_kept : List DaySample → Option ℕ
last_kept samples = fold kept_by None samples

-- the earliest one at which it was violated behind that
abbrev pub is_behind : Option ℕ → ℕ → Bool
is_behind None t = true
is_behind (Some kept) t = nat_lt kept t

abbrev pub violated_by : Option ℕ → Option ℕ → DaySample → Option ℕ
violated_by kept since s = if s.violated && is_behind kept s.at then Some (earlier since s.at) else since

abbrev pub violated_since : List DaySample → Option ℕ
violated_since samples = fold (violated_by (last_kept samples)) None samples

-- there is a sample of it at a moment
abbrev pub is_sampled_at : ℕ → List DaySample → Bool
is_sampled_at t samples = list_any (λ s. s.at == t) samples

-- it may have been violated before the report's first moment: it was in force then, and isn't kept in any sample
abbrev pub may_be_before : ℕ → List DaySample → Bool
may_be_before first samples = is_sampled_at first samples && not (is_some (last_kept samples))

-- the latest moment at which it was violated, and the samples up to a moment
abbrev pub violated_last : Option ℕ → DaySample → Option ℕ
violated_last latest s = if s.violated then Some (later latest s.at) else latest

abbrev pub last_violated : List DaySample → Option ℕ
last_violated samples = fold violated_last None samples

abbrev pub up_to : ℕ → List DaySample → List DaySample
up_to until samples = filter (λ s. nat_le s.at until) samples

-- it was kept behind a moment
abbrev pub is_kept_behind : ℕ → DaySample → Bool
is_kept_behind until s = is_kept s && nat_lt until s.at

abbrev pub is_over : ℕ → List DaySample → Bool
is_over until samples = list_any (is_kept_behind until) samples

-- A spell with its last violated sample at a moment goes on at the report's last one, was over as the rule was kept later,
-- or else the rule was closed, or no longer in force, from then on.
abbrev pub end_of : (last until : ℕ) → List DaySample → SpellEnd
end_of last until samples = if until == last then Present else if is_over until samples then Over else Closed

-- the last spell, by the moment of its last violated sample
abbrev pub spell_of : ReportSpan → ℕ → List DaySample → Spell
spell_of span until samples =
    record {
      since = violated_since (up_to until samples);
      is_before = may_be_before span.first (up_to until samples);
      until = until;
      end = end_of span.last until samples;
    }
