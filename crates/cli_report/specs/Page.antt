-- The page: its head, and an operator's section with its rules, the most often violated one first.
use Rattle.std.specs.Prelude.{ℕ, ◌+◌, ◌/◌, ◌==◌, List, [], ◌∷◌, ◌++◌, Bool, true, false, codes, length, map, if◌then◌else◌, Option, Some, None}
use Rattle.std.specs.List.{flat_map}
use Rattle.mds_match.specs.Zone.{ZoneKind}
use Rattle.mds_policy.specs.Policy.{Policy, Rule}
use Rattle.journal_samples.specs.declared.sample.RuleSample.{RuleSample}
use Rattle.cli_report.specs.Bounds.{bounds_text}
use Rattle.cli_report.specs.Cells.{Cell, text, identifier, number, local, day}
use Rattle.cli_report.specs.Counts.{all_behind, counts_of}
use Rattle.cli_report.specs.Days.{IsOrdered, day_sample, grouped, open_ones, violations}
use Rattle.cli_report.specs.Excess.{worst_text}
use Rattle.cli_report.specs.Lines.{marks}
use Rattle.cli_report.specs.Names.{Label, label_of}
use Rattle.cli_report.specs.Pieces.{IsWritten, Piece, markup, value}
use Rattle.cli_report.specs.Ranks.{AreRanked, samples_of}
use Rattle.cli_report.specs.Rows.{Operator}
use Rattle.cli_report.specs.Since.{last_violated, spell_of}
use Rattle.cli_report.specs.declared.counts.SampleCounts.{SampleCounts}
use Rattle.cli_report.specs.declared.days.DaySample.{DaySample}
use Rattle.cli_report.specs.declared.page.TheConstants.{HEAD, LEGEND}
use Rattle.cli_report.specs.declared.ranking.RuleSpan.{RuleSpan}
use Rattle.cli_report.specs.declared.reported.ReportHead as lent
use Rattle.cli_report.specs.declared.reported.ReportSpan.{ReportSpan}
use Rattle.cli_report.specs.declared.since.Spell.{Spell}
use Rattle.cli_report.specs.declared.since.SpellEnd.{SpellEnd}
use Rattle.cli_report.specs.declared.since.SpellEnd.TheVariants.{Present, Closed, Over}

-- what a page says of its report: the city's title, which may be empty, the zone, when it was made, where that is known, up
-- to when it was asked for, where that was still to come, by which program, and its first and last moment, and how many
-- milliseconds moments are apart
pub record Head : Type 0 where
  pub city : List ℕ
  pub zone : List ℕ
  pub made : Option ℕ
  pub to_come : Option ℕ
  pub program : List ℕ
  pub span : ReportSpan

abbrev pub head_view : lent.ReportHead → Head
head_view h =
    record {
      city = h.city.now;
      zone = h.zone.now;
      made = h.made;
      to_come = h.to_come;
      program = h.program.now;
      span = h.span;
    }

-- a city without a title goes by what the page for people calls itself then
abbrev pub title_text : List ℕ → List ℕ
title_text title =
    if length title == 0
    then codes "Rules for shared vehicles (no city is named: the configuration has no page.title)"
    else title

abbrev pub city_pieces : List ℕ → List Piece
city_pieces title =
    markup (codes "<tr><th>City</th><td>") ∷ value (text (title_text title)) ∷ markup (codes "</td></tr>\n") ∷ []

-- nothing where a report was asked for up to a moment that was over
abbrev pub to_come_pieces : Option ℕ → List Piece
to_come_pieces None = []
to_come_pieces (Some t) =
    markup (codes "<tr><th>Asked for up to</th><td>") ∷ value (local (Some t))
    ∷ markup (codes ", which was still to come: the report ends when it was made</td></tr>\n") ∷ []

abbrev pub minutes_text : ℕ → List ℕ
minutes_text n = if n == 1 then codes " minute" else codes " minutes"

abbrev pub moments_with : Head → (minutes : List ℕ) → List Piece
moments_with h minutes =
    markup (codes "<tr><th>Time zone</th><td>") ∷ value (text h.zone)
    ∷ markup (codes "</td></tr>\n<tr><th>First sample</th><td>") ∷ value (local (Some h.span.first))
    ∷ markup (codes "</td></tr>\n<tr><th>Last sample</th><td>") ∷ value (local (Some h.span.last))
    ∷ markup (codes "</td></tr>\n<tr><th>Sampled every</th><td>") ∷ value (number (h.span.every / 60000))
    ∷ markup minutes
    ∷ markup (codes "</td></tr>\n<tr><th>Made</th><td>") ∷ value (local h.made)
    ∷ markup (codes "</td></tr>\n<tr><th>By</th><td>") ∷ value (text h.program)
    ∷ markup (codes "</td></tr>\n") ∷ markup LEGEND.now ∷ []

abbrev pub moments_pieces : Head → List Piece
moments_pieces h = moments_with h (minutes_text (h.span.every / 60000))

-- what a page begins with, from its style to what its signs mean
abbrev pub head_pieces : Head → List Piece
head_pieces h = markup HEAD.now ∷ city_pieces h.city ++ to_come_pieces h.to_come ++ moments_pieces h

-- what stands behind a rule's number: its bounds, and by how much violated samples are outside of them
abbrev pub limits_behind : Option Rule → List ℕ
limits_behind None = []
limits_behind (Some rule) = codes ": " ++ bounds_text rule.kind rule.bounds

abbrev pub worst_behind : Option Rule → List DaySample → List ℕ
worst_behind None violated = []
worst_behind (Some rule) violated = worst_text rule.kind rule.bounds violated

-- a rule goes by its name, or else by its number in its policy, here counted from 1
abbrev pub heading_text : (name : List ℕ) → List ℕ
heading_text name = if length name == 0 then codes "Rule " else []

abbrev pub heading : (name : List ℕ) → ℕ → Cell
heading name place = if length name == 0 then number (place + 1) else text name

-- a rule's titles, by its names and identifiers
abbrev pub title_pieces : Label → DaySample → List Piece
title_pieces label s =
    markup (codes "<h3>") ∷ markup (heading_text label.name) ∷ value (heading label.name s.number) ∷ markup (codes " <small>")
    ∷ value (identifier s.rule)
    ∷ markup (codes "</small></h3>\n<p>Policy &ldquo;") ∷ value (text label.policy) ∷ markup (codes "&rdquo; <small>") ∷ value (identifier s.policy)
    ∷ markup (codes "</small>, rule ") ∷ value (number (s.number + 1)) ∷ []

-- its bounds, how often it was violated, and by how much
abbrev pub counts_pieces : (limits worst all : List ℕ) → SampleCounts → List Piece
counts_pieces limits worst all counts =
    markup limits ∷ markup (codes ". Violated in ") ∷ value (number counts.violated) ∷ markup (codes " of ")
    ∷ value (number counts.judged) ∷ markup (codes " samples") ∷ markup all ∷ markup (codes ".") ∷ markup worst
    ∷ markup (codes "</p>\n") ∷ []

abbrev pub judgment_pieces : Option Rule → List DaySample → List Piece
judgment_pieces rule samples =
    counts_pieces (limits_behind rule) (worst_behind rule (violations samples)) (all_behind (counts_of samples)) (counts_of samples)

-- since when it was violated in the last spell, whenever it was open, and until when
abbrev pub before_text : Bool → List ℕ
before_text true = codes " or before"
before_text false = []

abbrev pub begin_text : SpellEnd → List ℕ
begin_text Present = codes "<p>Violated at the report's end, and whenever the rule was open since "
begin_text Closed = codes "<p>Last violated, whenever the rule was open, from "
begin_text Over = codes "<p>Last violated, whenever the rule was open, from "

abbrev pub until_text : SpellEnd → List ℕ
until_text Present = []
until_text Closed = codes " to "
until_text Over = codes " to "

-- a spell that goes on has no end that is told
abbrev pub told_at : SpellEnd → ℕ → Option ℕ
told_at Present until = None
told_at Closed until = Some until
told_at Over until = Some until

abbrev pub end_text : SpellEnd → List ℕ
end_text Present = codes ". Its lines show each time.</p>\n"
end_text Closed = codes ", the last sample in which it was open. Its lines show each time.</p>\n"
end_text Over = codes "; it was kept since. Its lines show each time.</p>\n"

abbrev pub spell_pieces : Spell → List Piece
spell_pieces spell =
    markup (begin_text spell.end) ∷ value (local spell.since) ∷ markup (before_text spell.is_before)
    ∷ markup (until_text spell.end) ∷ value (local (told_at spell.end spell.until)) ∷ markup (end_text spell.end) ∷ []

-- nothing where it was never violated
abbrev pub end_with : ReportSpan → List DaySample → Option ℕ → List Piece
end_with span samples None = []
end_with span samples (Some until) = spell_pieces (spell_of span until samples)

abbrev pub end_pieces : ReportSpan → List DaySample → List Piece
end_pieces span samples = end_with span samples (last_violated samples)

-- a line for a day: the day, its drawing with marks at 6, 12 and 18 o'clock, and in how many of its samples in which the
-- rule was open it was violated
abbrev pub line_pieces : ℕ → List ℕ → ℕ → ℕ → List Piece
line_pieces t drawn violated judged =
    markup (codes "<tr><th>") ∷ value (day t)
    ∷ markup (codes "</th><td><svg viewBox=\"0 0 1440 12\" preserveAspectRatio=\"none\">"
    ++ codes "<path d=\"M360 0v12M720 0v12M1080 0v12\"/>")
    ∷ markup drawn ∷ markup (codes "</svg></td><td>") ∷ value (number violated) ∷ markup (codes " of ") ∷ value (number judged)
    ∷ markup (codes "</td></tr>\n") ∷ []

abbrev pub day_pieces : ZoneKind → ℕ → List DaySample → List Piece
day_pieces zone every [] = []
day_pieces zone every (s ∷ samples) =
    line_pieces s.at (marks zone every (s ∷ samples)) (length (violations (s ∷ samples))) (length (open_ones (s ∷ samples)))

abbrev pub days_pieces : ZoneKind → ℕ → List DaySample → List Piece
days_pieces zone every samples =
    markup (codes "<table>\n") ∷ flat_map (day_pieces zone every) (grouped samples) ++ markup (codes "</table>\n") ∷ []

-- a rule, by its samples in order: its titles, what is said of it, and a line for each of its days
abbrev pub rule_pieces : ZoneKind → ReportSpan → List Policy → List DaySample → List Piece
rule_pieces zone span policies [] = []
rule_pieces zone span policies (s ∷ samples) =
    title_pieces (label_of policies s.policy s.number) s
    ++ judgment_pieces (label_of policies s.policy s.number).rule (s ∷ samples)
    ++ end_pieces span (s ∷ samples) ++ days_pieces zone span.every (s ∷ samples)

-- an operator's section: its name and identifier, and its rules
abbrev pub name_pieces : Operator → List Piece
name_pieces o =
    markup (codes "<section>\n<h2>") ∷ value (text o.name) ∷ markup (codes " <small>") ∷ value (identifier o.id)
    ∷ markup (codes "</small></h2>\n") ∷ []

abbrev pub rules_pieces : ZoneKind → ReportSpan → List Policy → List DaySample → List RuleSpan → List Piece
rules_pieces zone span policies ordered rules = flat_map (λ r. rule_pieces zone span policies (samples_of ordered r)) rules

abbrev pub section_pieces : ZoneKind → ReportSpan → Operator → List Policy → List DaySample → List RuleSpan → List Piece
section_pieces zone span o policies ordered rules =
    name_pieces o ++ rules_pieces zone span policies ordered rules ++ markup (codes "</section>\n") ∷ []

abbrev pub IsSection : ZoneKind → ReportSpan → Operator → List Policy → List RuleSample → List ℕ → Type 0
IsSection zone span o policies samples bytes =
    (ordered : List DaySample) × (rules : List RuleSpan) × IsOrdered (map (day_sample zone) samples) ordered × AreRanked ordered rules
    × IsWritten zone (section_pieces zone span o policies ordered rules) bytes
