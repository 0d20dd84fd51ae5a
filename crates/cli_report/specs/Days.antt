-- The samples of a rule's local days, and what they come to.
use Rattle.std.specs.Prelude.{ℕ, ◌/◌, ◌==◌, List, [], ◌∷◌, Bool, true, false, ◌&&◌, bytes_eq, filter, length, nat_le, if◌then◌else◌, max, min, fold, take_while, Option, Some, None}
use Rattle.std.specs.Cmp.Lexicographic.{slice_cmp}
use Rattle.std.specs.List.Sorted.{IsPermutation, IsSorted}
use Rattle.std.specs.Ordering.{nat_cmp, ordering_then}
use Rattle.std.specs.declared.cmp.Ordering.{Ordering}
use Rattle.mds_match.specs.Zone.{ZoneKind}
use Rattle.mds_verdict.specs.declared.verdict.Status.{Status}
use Rattle.mds_verdict.specs.declared.verdict.Status.TheVariants.{Ok, Violated}
use Rattle.cli_calendar.specs.Clocks.{clock_at}
use Rattle.journal_samples.specs.declared.sample.RuleSample.{RuleSample}
use Rattle.cli_report.specs.declared.days.DaySample.{DaySample}

abbrev pub is_violated : Status → Bool
is_violated Violated = true
is_violated status = false

-- the rule was open and is evaluated
abbrev pub is_judged : Status → Bool
is_judged Violated = true
is_judged Ok = true
is_judged status = false

-- a sample with its local day, counted from 29 December 1969
abbrev pub day_sample : ZoneKind → RuleSample → DaySample
day_sample zone s =
    record {
      policy = s.policy;
      number = s.number;
      day = clock_at zone s.at / 86400;
      at = s.at;
      rule = s.rule;
      violated = is_violated s.status;
      judged = is_judged s.status;
      measure = s.measure;
    }

-- by policy, rule and day, then by moment
abbrev pub sample_cmp : DaySample → DaySample → Ordering
sample_cmp a b =
    ordering_then (slice_cmp nat_cmp a.policy b.policy)
    (ordering_then (nat_cmp a.number b.number) (ordering_then (nat_cmp a.day b.day) (nat_cmp a.at b.at)))

-- the same samples in that order
pub record IsOrdered (samples ordered : List DaySample) : Type 0 where
  pub same : IsPermutation samples ordered
  pub ascend : IsSorted sample_cmp ordered

-- samples in order, those of them together that go together with the next one
abbrev pub joined : (DaySample → DaySample → Bool) → DaySample → List (List DaySample) → List (List DaySample)
joined together s [] = (s ∷ []) ∷ []
joined together s ([] ∷ groups) = (s ∷ []) ∷ groups
joined together s ((next ∷ group) ∷ groups) =
    if together s next then (s ∷ next ∷ group) ∷ groups else (s ∷ []) ∷ (next ∷ group) ∷ groups

abbrev pub grouped_by : (DaySample → DaySample → Bool) → List DaySample → List (List DaySample)
grouped_by together [] = []
grouped_by together (s ∷ samples) = joined together s (grouped_by together samples)

-- of the same rule, and of the same rule and day
abbrev pub is_of_rule : DaySample → DaySample → Bool
is_of_rule a b = bytes_eq a.policy b.policy && (a.number == b.number)

abbrev pub is_beside : DaySample → DaySample → Bool
is_beside a b = bytes_eq a.policy b.policy && (a.number == b.number) && (a.day == b.day)

-- samples in order, those of each rule and day together
abbrev pub grouped : List DaySample → List (List DaySample)
grouped samples = grouped_by is_beside samples

-- the violated samples in a row from the first one on
abbrev pub leading : List DaySample → List DaySample
leading samples = take_while (λ s. s.violated) samples

-- the longer one of two runs, of two as long the first
abbrev pub longer : List DaySample → List DaySample → List DaySample
longer one other = if nat_le (length other) (length one) then one else other

-- the longest run of violated samples in a row; of runs as long the first
abbrev pub longest : List DaySample → List DaySample
longest [] = []
longest (s ∷ samples) = longer (leading (s ∷ samples)) (longest samples)

-- all violated samples
abbrev pub violations : List DaySample → List DaySample
violations samples = filter (λ s. s.violated) samples

abbrev pub greatest_measure : List DaySample → ℕ
greatest_measure samples = fold (λ most s. max s.measure most) 0 samples

-- the samples in which the rule was open: others have no measure
abbrev pub open_ones : List DaySample → List DaySample
open_ones samples = filter (λ s. s.judged) samples

-- the least measure of samples, where there are any
abbrev pub lesser : Option ℕ → ℕ → ℕ
lesser None n = n
lesser (Some least) n = min n least

abbrev pub least_measure : List DaySample → Option ℕ
least_measure samples = fold (λ least s. Some (lesser least s.measure)) None samples
