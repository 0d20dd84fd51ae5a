-- The rules of an operator, and their order on the page: worst first.
use Rattle.std.specs.Prelude.{◌≡◌, ℕ, ◌+◌, ◌-◌, List, [], ◌∷◌, drop, length, map, take}
use Rattle.std.specs.List.Sorted.{IsPermutation, IsSorted}
use Rattle.std.specs.Ordering.{nat_cmp, ordering_then}
use Rattle.std.specs.declared.cmp.Ordering.{Ordering}
use Rattle.cli_report.specs.Days.{grouped_by, is_of_rule, violations}
use Rattle.cli_report.specs.declared.days.DaySample.{DaySample}
use Rattle.cli_report.specs.declared.ranking.RuleSpan.{RuleSpan}

-- where the samples of a rule stand among samples in order, from one index to before another, and how many are violated
pub record Span : Type 0 where
  pub violated : ℕ
  pub start : ℕ
  pub end : ℕ

abbrev pub span_view : RuleSpan → Span
span_view r = record { violated = r.violated.0; start = r.start; end = r.end }

abbrev pub span_of : ℕ → List DaySample → Span
span_of start samples = record { violated = length (violations samples); start = start; end = start + length samples }

abbrev pub spans_from : ℕ → List (List DaySample) → List Span
spans_from start [] = []
spans_from start (samples ∷ rules) = span_of start samples ∷ spans_from (start + length samples) rules

-- the rules of samples in order: those of one policy and number, one behind the other, are one rule's
abbrev pub spans : List DaySample → List Span
spans ordered = spans_from 0 (grouped_by is_of_rule ordered)

-- the samples of one of them
abbrev pub samples_of : List DaySample → RuleSpan → List DaySample
samples_of ordered r = take (r.end - r.start) (drop r.start ordered)

-- the rule with more violated samples first; of those with as many, the one whose samples stand first
abbrev pub span_cmp : RuleSpan → RuleSpan → Ordering
span_cmp a b = ordering_then (nat_cmp b.violated.0 a.violated.0) (nat_cmp a.start b.start)

-- the same rules in that order
pub record IsRanked (rules ranked : List RuleSpan) : Type 0 where
  pub same : IsPermutation rules ranked
  pub worst_first : IsSorted span_cmp ranked

-- the rules of samples in order, worst first
abbrev pub AreRanked : List DaySample → List RuleSpan → Type 0
AreRanked ordered ranked = (rules : List RuleSpan) × (map span_view rules ≡ spans ordered) × IsRanked rules ranked
