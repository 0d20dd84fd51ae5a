use Rattle.std.proofs.Common.{◌∷◌, drop, sym, ap, ◌∙◌, arith}
use Rattle.std.proofs.lemmas.Bool.Decides.{nat_tests}
use Rattle.cli_report.specs.Days.{grouped}
use Rattle.cli_report.specs.Page.{day_pieces}
use Rattle.cli_report.specs.Pieces.{IsWritten}
use Rattle.cli_report.proofs.Dayed.{all_told, one_more}
use Rattle.cli_report.proofs.rule_section.push_day_lines.Goals as goal

pub days-preserved : goal.days-preserved
days-preserved c =
    let left = c.days.left.now in
    let count = c.count_first-count.result in
    let group = c.front_of-group.result.now in
    let rest = c.rest_of-rest.result.now in
    one_more (λ day. IsWritten c.args.zone.now (day_pieces c.args.zone.now c.args.span.now.every day))
    c.args.samples.now left rest group c.args.out.now.items c.days.out.items c.push_day_line.new.out.items
    (c.count_first-count.ensures.group
    ∙ ap (λ g. g ∷ grouped (drop count left)) (sym c.front_of-group.ensures)
    ∙ ap (λ r. group ∷ grouped r) (sym c.rest_of-rest.ensures))
    c.days.invariant c.in_ok-push_day_line.ensures

pub returns : goal.returns
returns c =
    all_told (λ day. IsWritten c.args.zone.now (day_pieces c.args.zone.now c.args.span.now.every day))
    c.args.samples.now c.days.left.now c.args.out.now.items c.days.out.items
    (grind (arith, nat_tests, c.is_empty.ensures, c.days-test.false)) c.days.invariant
