-- A rule's day as a line of 1,440 units, one for each minute that the clock shows from midnight on, and its marks.
use Rattle.std.specs.Prelude.{ℕ, ◌+◌, ◌-◌, ◌/◌, ◌%◌, ◌==◌, List, [], ◌∷◌, ◌++◌, Bool, true, false, not, ◌&&◌, max, min, codes, if◌then◌else◌}
use Rattle.std.specs.Fmt.{decimal}
use Rattle.std.specs.List.{flat_map}
use Rattle.mds_match.specs.Zone.{ZoneKind}
use Rattle.cli_calendar.specs.Clocks.{clock_at}
use Rattle.cli_report.specs.Days.{grouped_by}
use Rattle.cli_report.specs.declared.days.DaySample.{DaySample}

-- the minute of the local day that the clock shows at a moment
abbrev pub minute_at : ZoneKind → ℕ → ℕ
minute_at zone t = clock_at zone t % 86400 / 60

-- a sample is drawn by whether the rule was violated, and whether it was open
abbrev pub is_same : Bool → Bool → Bool
is_same a b = if a then b else not b

abbrev pub are_alike : DaySample → DaySample → Bool
are_alike a b = is_same a.violated b.violated && is_same a.judged b.judged

-- A mark goes on from a sample to another: they are drawn alike, the other is the next moment's, so many milliseconds
-- later, and the clock went as far, so that it wasn't set in between.
abbrev pub goes_on : ZoneKind → ℕ → DaySample → DaySample → Bool
goes_on zone every a b =
    are_alike a b && (b.at - a.at == every) && (minute_at zone b.at == minute_at zone a.at + every / 60000)

-- A sample stands for the time up to the next one, at most up to midnight. So a mark is from what the clock shows at its
-- first sample to what it shows at its last one and so much more; it is a unit wide at least.
abbrev pub mark_begin : ZoneKind → DaySample → ℕ
mark_begin zone s = minute_at zone s.at

abbrev pub mark_end : ZoneKind → ℕ → DaySample → ℕ
mark_end zone every s = min (minute_at zone s.at + every / 60000) 1440

abbrev pub mark_width : ZoneKind → ℕ → DaySample → DaySample → ℕ
mark_width zone every first last = max (mark_end zone every last - mark_begin zone first) 1

-- a violated rule's mark is as high as the line, a kept one's a third of it, that of one that is closed or not evaluated
-- a hair
abbrev pub shape : Bool → Bool → List ℕ
shape true judged = codes "class=\"violated\" y=\"0\" height=\"12\""
shape false true = codes "class=\"kept\" y=\"4\" height=\"4\""
shape false false = codes "class=\"closed\" y=\"5.5\" height=\"1\""

abbrev pub begin_text : ℕ → List ℕ
begin_text begin = codes " x=\"" ++ decimal begin ++ codes "\""

abbrev pub width_text : ℕ → List ℕ
width_text width = codes " width=\"" ++ decimal width ++ codes "\"/>"

abbrev pub place_text : (begin width : ℕ) → List ℕ
place_text begin width = begin_text begin ++ width_text width

abbrev pub shape_text : (violated judged : Bool) → List ℕ
shape_text violated judged = codes "<rect " ++ shape violated judged

abbrev pub mark_text : ZoneKind → ℕ → DaySample → DaySample → List ℕ
mark_text zone every first last =
    shape_text first.violated first.judged ++ place_text (mark_begin zone first) (mark_width zone every first last)

-- the last of some samples
abbrev pub last_in : DaySample → List DaySample → DaySample
last_in s [] = s
last_in s (next ∷ samples) = last_in next samples

abbrev pub mark_of : ZoneKind → ℕ → List DaySample → List ℕ
mark_of zone every [] = []
mark_of zone every (s ∷ samples) = mark_text zone every s (last_in s samples)

-- the marks of a day's samples
abbrev pub marks : ZoneKind → ℕ → List DaySample → List ℕ
marks zone every samples = flat_map (mark_of zone every) (grouped_by (goes_on zone every) samples)
