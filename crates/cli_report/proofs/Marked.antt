-- The marks of a day's line, one behind the other, and the line.
use Rattle.std.proofs.Common.{◌≡◌, ◌<◌, ◌-◌, ℕ, List, [], ◌∷◌, ◌++◌, length, get_or, sym, ap, ◌∙◌, append_assoc, arith}
use Rattle.std.specs.List.{flat_map}
use Rattle.std.proofs.lemmas.List.{append-nil}
use Rattle.mds_match.specs.Zone.{ZoneKind}
use Rattle.cli_report.specs.Days.{grouped_by, open_ones, violations}
use Rattle.cli_report.specs.Lines.{last_in, mark_of, mark_text, marks}
use Rattle.cli_report.specs.Page.{day_pieces, line_pieces}
use Rattle.cli_report.specs.declared.days.DaySample.{DaySample}
use Rattle.cli_report.proofs.Dayed.{none}
use Rattle.cli_report.proofs.Groups.{Test}

pub one_more : (f : List DaySample → List ℕ) (p : Test) (out new all : List ℕ) (left rest group : List DaySample)
    → grouped_by p left ≡ group ∷ grouped_by p rest → new ≡ out ++ f group → out ++ flat_map f (grouped_by p left) ≡ all
    → new ++ flat_map f (grouped_by p rest) ≡ all
one_more f p out new all left rest group is made so_far =
    ap (λ s. s ++ flat_map f (grouped_by p rest)) made
    ∙ append_assoc out (f group) (flat_map f (grouped_by p rest))
    ∙ ap (λ groups. out ++ flat_map f groups) (sym is)
    ∙ so_far

pub all_drawn : (f : List DaySample → List ℕ) (p : Test) (out all : List ℕ) (left : List DaySample) → length left ≡ 0
    → out ++ flat_map f (grouped_by p left) ≡ all → out ≡ all
all_drawn f p out all left empty so_far =
    sym (append-nil out) ∙ ap (λ ys. out ++ flat_map f (grouped_by p ys)) (sym (none left empty)) ∙ so_far

last_is : (s : DaySample) (samples : List DaySample) (d : DaySample) → d ≡ get_or (s ∷ samples) (length samples) d → d ≡ last_in s samples
last_is s [] d is = is
last_is s (next ∷ samples) d is = last_is next samples d is

pub mark_is : (zone : ZoneKind) (every : ℕ) (samples : List DaySample) (first last : DaySample) → 0 < length samples
    → first ≡ get_or samples 0 first → last ≡ get_or samples (length samples - 1) last
    → mark_text zone every first last ≡ mark_of zone every samples
mark_is zone every [] first last some is_first is_last = absurd (omega (arith, some))
mark_is zone every (s ∷ samples) first last some is_first is_last =
    let end : length (s ∷ samples) - 1 ≡ length samples = omega arith in
    ap (λ k. mark_text zone every k last) is_first
    ∙ ap (mark_text zone every s) (last_is s samples last (is_last ∙ ap (λ n. get_or (s ∷ samples) n last) end))

-- the line of a day by its first sample
pub line_is : (zone : ZoneKind) (every : ℕ) (samples : List DaySample) (first : DaySample) (drawn : List ℕ) (violated judged : ℕ)
    → 0 < length samples → first ≡ get_or samples 0 first → drawn ≡ marks zone every samples → violated ≡ length (violations samples)
    → judged ≡ length (open_ones samples) → line_pieces first.at drawn violated judged ≡ day_pieces zone every samples
line_is zone every [] first drawn violated judged some is is_drawn is_violated is_judged = absurd (omega (arith, some))
line_is zone every (s ∷ samples) first drawn violated judged some is is_drawn is_violated is_judged =
    ap (λ k. line_pieces k.at drawn violated judged) is
    ∙ ap (λ d. line_pieces s.at d violated judged) is_drawn
    ∙ ap (λ n. line_pieces s.at (marks zone every (s ∷ samples)) n judged) is_violated
    ∙ ap (line_pieces s.at (marks zone every (s ∷ samples)) (length (violations (s ∷ samples)))) is_judged
