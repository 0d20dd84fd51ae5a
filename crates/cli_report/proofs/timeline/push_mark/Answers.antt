use Rattle.std.proofs.Common.{◌++◌, ap, ◌∙◌}
use Rattle.std.proofs.lemmas.Result.{on_ok_weaker}
use Rattle.cli_report.proofs.Marked.{mark_is}
use Rattle.cli_report.proofs.timeline.push_mark.Goals as goal

pub returns : goal.returns
returns c =
    let is =
    mark_is c.args.zone.now c.args.span.now.every c.args.samples.now c.first_of-first.result.now c.last_of-last.result.now
    c.requires c.first_of-first.ensures c.last_of-last.ensures in
    on_ok_weaker c.push_bytes.result
    (λ made. made ∙ ap (λ s. c.args.out.now.items ++ s) (c.as_bytes.ensures.value ∙ c.in_ok-text.ensures ∙ is))
    c.push_bytes.ensures
