-- The rows of a report: of each sample, and of each rule and local day.
use Rattle.std.specs.Prelude.{ℕ, ◌-◌, List, [], ◌∷◌, ◌++◌, codes, length, map, slice_get, Option, Some, option_and_then, option_map}
use Rattle.mds_match.specs.Zone.{ZoneKind}
use Rattle.std.specs.Option.{option_map_or}
use Rattle.mds_policy.specs.Policy.{Policy}
use Rattle.mds_policy.specs.declared.rule.Kind.{Kind}
use Rattle.mds_policy.specs.declared.rule.Kind.TheVariants.{Count, Time, Other}
use Rattle.mds_verdict.specs.Verdict.{status_name}
use Rattle.journal_samples.specs.declared.sample.RuleSample.{RuleSample}
use Rattle.cli_report.specs.Cells.{Cell, text, identifier, number, number_if, utc, local, day, IsRow}
use Rattle.cli_report.specs.Days.{IsOrdered, day_sample, greatest_measure, grouped, least_measure, longest, open_ones, violations}
use Rattle.cli_report.specs.Names.{Label, label_of}
use Rattle.cli_report.specs.Texts.{Spells}
use Rattle.cli_report.specs.declared.days.DaySample.{DaySample}
use Rattle.cli_report.specs.declared.reported.ReportedOperator as program
use Rattle.cli_report.specs.declared.summary.Tally.{Tally}

-- an operator's identifier and name
pub record Operator : Type 0 where
  pub id : List ℕ
  pub name : List ℕ

abbrev pub operator_view : program.ReportedOperator → Operator
operator_view o = record { id = o.id; name = o.name.now }

-- which rule of which policy of an operator a row is about
abbrev pub rule_cells : Operator → Label → List ℕ → ℕ → List ℕ → List Cell
rule_cells o label policy place rule =
    identifier o.id ∷ text o.name ∷ identifier policy ∷ text label.policy ∷ number place ∷ identifier rule ∷ text label.name ∷ []

abbrev pub minimum : Label → Option ℕ
minimum label = option_and_then (λ rule. rule.bounds.minimum) label.rule

abbrev pub maximum : Label → Option ℕ
maximum label = option_and_then (λ rule. rule.bounds.maximum) label.rule

-- the unit of its bounds, in the words of its document; a count rule's are vehicles, whatever its document says
abbrev pub kind_units : Kind → List ℕ → List ℕ
kind_units Count words = []
kind_units (Time unit) words = words
kind_units Other words = words

abbrev pub units : Label → List ℕ
units label = option_map_or (λ rule. kind_units rule.kind label.units) label.rule []

abbrev pub verdict_cells : Operator → Label → RuleSample → List Cell
verdict_cells o label s =
    utc s.at ∷ local (Some s.at) ∷ rule_cells o label s.policy s.number s.rule
    ++ text (status_name s.status) ∷ number s.measure ∷ number_if (minimum label) ∷ number_if (maximum label) ∷ text (units label) ∷ []

-- the names of the columns
abbrev pub verdict_header : List ℕ
verdict_header =
    codes "moment,local,operator_id,operator_name,policy_id,policy_name,rule_number,rule_id,rule_name,"
    ++ codes "status,measure,minimum,maximum,units\r\n"

-- the row of a sample
abbrev pub verdict_row : Operator → List Policy → RuleSample → List Cell
verdict_row o policies s = verdict_cells o (label_of policies s.policy s.number) s

abbrev pub IsVerdicts : ZoneKind → Operator → List Policy → List RuleSample → List ℕ → Type 0
IsVerdicts zone o policies samples bytes = Spells (λ s. IsRow zone (verdict_row o policies s)) samples bytes

-- the moments of the first and of the last one of some samples, where there are any
abbrev pub first_moment : List DaySample → Option ℕ
first_moment samples = option_map (λ s. s.at) (slice_get samples 0)

abbrev pub last_moment : List DaySample → Option ℕ
last_moment samples = option_map (λ s. s.at) (slice_get samples (length samples - 1))

abbrev pub summary_header : List ℕ
summary_header =
    codes "operator_id,operator_name,policy_id,policy_name,rule_number,rule_id,rule_name,day,samples,violated,"
    ++ codes "longest,longest_first,longest_last,first_violated,last_violated,greatest_measure,least_measure\r\n"

-- what the samples of a rule's day come to
abbrev pub tally_of : List DaySample → Tally
tally_of samples =
    record {
      samples = length samples;
      violated = length (violations samples);
      longest = length (longest samples);
      longest_first = first_moment (longest samples);
      longest_last = last_moment (longest samples);
      first_violated = first_moment (violations samples);
      last_violated = last_moment (violations samples);
      greatest_measure = greatest_measure samples;
      least_measure = least_measure (open_ones samples);
    }

abbrev pub tally_cells : Tally → List Cell
tally_cells t =
    number t.samples ∷ number t.violated ∷ number t.longest ∷ local t.longest_first ∷ local t.longest_last
    ∷ local t.first_violated ∷ local t.last_violated ∷ number t.greatest_measure ∷ number_if t.least_measure ∷ []

abbrev pub day_cells : Operator → Label → DaySample → Tally → List Cell
day_cells o label s tally = rule_cells o label s.policy s.number s.rule ++ day s.at ∷ tally_cells tally

-- the row of the samples of a rule's day
abbrev pub day_row : Operator → List Policy → List DaySample → List Cell
day_row o policies [] = []
day_row o policies (s ∷ samples) = day_cells o (label_of policies s.policy s.number) s (tally_of (s ∷ samples))

abbrev pub IsDays : ZoneKind → Operator → List Policy → List DaySample → List ℕ → Type 0
IsDays zone o policies ordered bytes = Spells (λ samples. IsRow zone (day_row o policies samples)) (grouped ordered) bytes

-- the summary of samples
abbrev pub IsSummary : ZoneKind → Operator → List Policy → List RuleSample → List ℕ → Type 0
IsSummary zone o policies samples bytes =
    (ordered : List DaySample) × IsOrdered (map (day_sample zone) samples) ordered × IsDays zone o policies ordered bytes
