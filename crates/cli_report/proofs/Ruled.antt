-- The rules of samples in order, and their text.
use Rattle.std.proofs.Common.{◌≡◌, ◌<◌, ◌+◌, ℕ, List, [], ◌∷◌, ◌++◌, length, map, get_or, sym, ap, subst, ◌∙◌, append_assoc, arith}
use Rattle.std.specs.Prelude.{codes}
use Rattle.std.proofs.lemmas.List.{append-nil}
use Rattle.mds_match.specs.Zone.{ZoneKind}
use Rattle.mds_policy.specs.Policy.{Policy}
use Rattle.journal_samples.specs.declared.sample.RuleSample.{RuleSample}
use Rattle.cli_report.specs.Days.{IsOrdered, day_sample, grouped_by, is_of_rule}
use Rattle.cli_report.specs.Names.{Label, label_of}
use Rattle.cli_report.specs.Page.{IsSection, days_pieces, end_pieces, judgment_pieces, name_pieces, rule_pieces, rules_pieces, title_pieces}
use Rattle.cli_report.specs.Pieces.{IsPiece, IsWritten, Piece, markup}
use Rattle.cli_report.specs.Ranks.{AreRanked, Span, span_of, spans_from}
use Rattle.cli_report.specs.Rows.{Operator}
use Rattle.cli_report.specs.Texts.{Appends}
use Rattle.cli_report.specs.declared.days.DaySample.{DaySample}
use Rattle.cli_report.specs.declared.ranking.RuleSpan.{RuleSpan}
use Rattle.cli_report.specs.declared.reported.ReportSpan.{ReportSpan}
use Rattle.cli_report.proofs.Dayed.{none}
use Rattle.cli_report.proofs.Written.{both}

-- one more of those that are left
pub one_more : (done all : List Span) (left rest group : List DaySample) (start next : ℕ) (r : Span)
    → grouped_by is_of_rule left ≡ group ∷ grouped_by is_of_rule rest → r ≡ span_of start group → next ≡ start + length group
    → done ++ spans_from start (grouped_by is_of_rule left) ≡ all → (done ++ r ∷ []) ++ spans_from next (grouped_by is_of_rule rest) ≡ all
one_more done all left rest group start next r is is_r is_next so_far =
    let others = grouped_by is_of_rule rest in
    append_assoc done (r ∷ []) (spans_from next others)
    ∙ ap (λ n. done ++ r ∷ spans_from n others) is_next
    ∙ ap (λ k. done ++ k ∷ spans_from (start + length group) others) is_r
    ∙ ap (λ groups. done ++ spans_from start groups) (sym is)
    ∙ so_far

pub all_found : (done all : List Span) (left : List DaySample) (start : ℕ) → length left ≡ 0
    → done ++ spans_from start (grouped_by is_of_rule left) ≡ all → done ≡ all
all_found done all left start empty so_far =
    sym (append-nil done) ∙ ap (λ ys. done ++ spans_from start (grouped_by is_of_rule ys)) (sym (none left empty)) ∙ so_far

-- a rule's text by its first sample
rule_is : (zone : ZoneKind) (span : ReportSpan) (policies : List Policy) (samples : List DaySample) (s : DaySample) (label : Label)
    → 0 < length samples → s ≡ get_or samples 0 s → label ≡ label_of policies s.policy s.number
    → title_pieces label s ++ judgment_pieces label.rule samples ++ end_pieces span samples ++ days_pieces zone span.every samples
    ≡ rule_pieces zone span policies samples
rule_is zone span policies [] s label some is labelled = absurd (omega (arith, some))
rule_is zone span policies (x ∷ samples) s label some is labelled =
    let rest : List Piece = end_pieces span (x ∷ samples) ++ days_pieces zone span.every (x ∷ samples) in
    ap (λ (l : Label). title_pieces l s ++ judgment_pieces l.rule (x ∷ samples) ++ rest) labelled
    ∙ ap (λ (k : DaySample). title_pieces (label_of policies k.policy k.number) k ++ judgment_pieces (label_of policies k.policy k.number).rule (x ∷ samples) ++ rest) is

pub rule_made : (zone : ZoneKind) (span : ReportSpan) (policies : List Policy) (samples : List DaySample) (s : DaySample) (label : Label)
    (old one two three new : List ℕ) → 0 < length samples → s ≡ get_or samples 0 s → label ≡ label_of policies s.policy s.number
    → Appends (IsWritten zone (title_pieces label s)) old one → Appends (IsWritten zone (judgment_pieces label.rule samples)) one two
    → Appends (IsWritten zone (end_pieces span samples)) two three → Appends (IsWritten zone (days_pieces zone span.every samples)) three new
    → Appends (IsWritten zone (rule_pieces zone span policies samples)) old new
rule_made zone span policies samples s label old one two three new some is labelled titled judged ended dayed =
    let P = IsPiece zone in
    let days = days_pieces zone span.every samples in
    let end = end_pieces span samples in
    let judgment = judgment_pieces label.rule samples in
    subst (λ pieces. Appends (IsWritten zone pieces) old new) (rule_is zone span policies samples s label some is labelled)
    (both P (title_pieces label s) (judgment ++ end ++ days) old one new titled
    (both P judgment (end ++ days) one two new judged (both P end days two three new ended dayed)))

pub section_made : (zone : ZoneKind) (span : ReportSpan) (o : Operator) (policies trees : List Policy) (samples : List RuleSample)
    (ordered lent : List DaySample) (rules lent_rules : List RuleSpan) (old one two new : List ℕ) → trees ≡ policies → lent ≡ ordered
    → lent_rules ≡ rules → IsOrdered (map (day_sample zone) samples) ordered → AreRanked ordered rules
    → Appends (IsWritten zone (name_pieces o)) old one → Appends (IsWritten zone (rules_pieces zone span trees lent lent_rules)) one two
    → Appends (IsWritten zone (markup (codes "</section>\n") ∷ [])) two new
    → Appends (IsSection zone span o policies samples) old new
section_made zone span o policies trees samples ordered lent rules lent_rules old one two new same_trees same_days same_rules is ranked named told ended =
    let P = IsPiece zone in
    let end = markup (codes "</section>\n") ∷ [] in
    let its = rules_pieces zone span policies ordered rules in
    let told' =
    subst (λ (ps : List Policy). Appends (IsWritten zone (rules_pieces zone span ps ordered rules)) one two) same_trees
    (subst (λ (ys : List DaySample). Appends (IsWritten zone (rules_pieces zone span trees ys rules)) one two) same_days
    (subst (λ (rs : List RuleSpan). Appends (IsWritten zone (rules_pieces zone span trees lent rs)) one two) same_rules told)) in
    let made = both P (name_pieces o) (its ++ end) old one new named (both P its end one two new told' ended) in
    (made.0, (ordered, rules, is, ranked, made.1), made.2)
