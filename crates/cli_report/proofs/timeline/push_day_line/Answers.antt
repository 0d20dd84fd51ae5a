use Rattle.std.proofs.Common.{length, ap, subst, ◌∙◌}
use Rattle.std.proofs.lemmas.Result.{on_ok_weaker}
use Rattle.cli_report.specs.Pieces.{IsWritten}
use Rattle.cli_report.specs.Texts.{Appends}
use Rattle.cli_report.proofs.Marked.{line_is}
use Rattle.cli_report.proofs.timeline.push_day_line.Goals as goal

pub returns : goal.returns
returns c =
    let zone = c.args.zone.now in
    let samples = c.args.samples.now in
    on_ok_weaker c.push_line.result
    (λ made. subst (λ pieces. Appends (IsWritten zone pieces) c.args.out.now.items c.push_line.new.out.items)
    (line_is zone c.args.span.now.every samples c.first_of-first.result.now c.deref.result.now c.len-violated.result c.len-judged.result
    c.requires c.first_of-first.ensures (c.deref.ensures.value ∙ c.in_ok-marks.ensures)
    (c.len-violated.ensures ∙ c.in_ok-violations.field-0.ok.0 ∙ ap length c.in_ok-violations.ensures)
    (c.len-judged.ensures ∙ c.in_ok-open_ones.field-0.ok.0 ∙ ap length c.in_ok-open_ones.ensures))
    made)
    c.push_line.ensures
