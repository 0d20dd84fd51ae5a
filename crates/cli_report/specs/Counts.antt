-- How many samples there are of a rule, and in how many it was open.
use Rattle.std.specs.Prelude.{ℕ, ◌==◌, List, [], ◌++◌, codes, length, if◌then◌else◌}
use Rattle.std.specs.Fmt.{decimal}
use Rattle.cli_report.specs.Days.{open_ones, violations}
use Rattle.cli_report.specs.declared.counts.SampleCounts.{SampleCounts}
use Rattle.cli_report.specs.declared.days.DaySample.{DaySample}

abbrev pub counts_of : List DaySample → SampleCounts
counts_of samples =
    record { violated = length (violations samples); judged = length (open_ones samples); all = length samples }

-- A rule that is open in none of its samples may be one that isn't evaluated.
abbrev pub open_words : ℕ → List ℕ
open_words judged = if judged == 0 then codes " in which it was open and evaluated" else codes " in which it was open"

-- how many samples there are in all, where the rule wasn't open in each
abbrev pub all_text : (judged all : ℕ) → List ℕ
all_text judged all = if judged == all then [] else open_words judged ++ codes " (" ++ decimal all ++ codes " in all)"

abbrev pub all_behind : SampleCounts → List ℕ
all_behind counts = all_text counts.judged counts.all
