use Rattle.std.proofs.Common.{◌∷◌, drop, sym, ap, ◌∙◌, arith}
use Rattle.std.proofs.lemmas.Bool.Decides.{nat_tests}
use Rattle.cli_report.specs.Days.{grouped_by}
use Rattle.cli_report.specs.Lines.{goes_on, mark_of, marks}
use Rattle.cli_report.proofs.Marked.{all_drawn, one_more}
use Rattle.cli_report.proofs.timeline.marks_of.Goals as goal

pub marks-preserved : goal.marks-preserved
marks-preserved c =
    let zone = c.args.zone.now in
    let every = c.args.span.now.every in
    let left = c.marks.left.now in
    let count = c.count_in_mark-count.result in
    let group = c.front_of-group.result.now in
    let rest = c.rest_of-rest.result.now in
    one_more (mark_of zone every) (goes_on zone every) c.marks.out.items c.push_mark.new.out.items
    (marks zone every c.args.samples.now) left rest group
    (c.count_in_mark-count.ensures.group
    ∙ ap (λ g. g ∷ grouped_by (goes_on zone every) (drop count left)) (sym c.front_of-group.ensures)
    ∙ ap (λ r. group ∷ grouped_by (goes_on zone every) r) (sym c.rest_of-rest.ensures))
    c.in_ok-push_mark.ensures c.marks.invariant

pub returns : goal.returns
returns c =
    let zone = c.args.zone.now in
    let every = c.args.span.now.every in
    all_drawn (mark_of zone every) (goes_on zone every) c.marks.out.items (marks zone every c.args.samples.now) c.marks.left.now
    (grind (arith, nat_tests, c.is_empty.ensures, c.marks-test.false)) c.marks.invariant
