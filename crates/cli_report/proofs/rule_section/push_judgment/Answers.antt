use Rattle.std.proofs.Common.{ap, subst, ◌∙◌}
use Rattle.std.specs.Prelude.{option_map}
use Rattle.std.proofs.lemmas.Result.{on_ok_weaker}
use Rattle.mds_policy.specs.Policy.{rule_document}
use Rattle.cli_report.specs.Counts.{all_behind, counts_of}
use Rattle.cli_report.specs.Days.{violations}
use Rattle.cli_report.specs.Page.{counts_pieces, limits_behind, worst_behind}
use Rattle.cli_report.specs.Pieces.{IsWritten}
use Rattle.cli_report.specs.Texts.{Appends}
use Rattle.cli_report.proofs.rule_section.push_judgment.Goals as goal

pub returns : goal.returns
returns c =
    let rule = option_map (λ r. rule_document r.now) c.args.rule in
    let samples = c.args.samples.now in
    let limits = limits_behind rule in
    let worst = worst_behind rule (violations samples) in
    let counts = c.in_ok-counts.counts in
    let all = c.as_str-2.result.now in
    on_ok_weaker c.push_counts.result
    (λ made. subst (λ pieces. Appends (IsWritten c.args.zone.now pieces) c.args.out.now.items c.push_counts.new.out.items)
    (ap (λ l. counts_pieces l c.as_str.result.now all counts) (c.deref-2.ensures.value ∙ c.in_ok-limits.ensures)
    ∙ ap (λ w. counts_pieces limits w all counts)
    (c.as_str.ensures.value ∙ c.in_ok-worst.ensures ∙ ap (worst_behind rule) (c.deref.ensures.value ∙ c.in_ok-violated.ensures))
    ∙ ap (λ a. counts_pieces limits worst a counts) (c.as_str-2.ensures.value ∙ c.in_ok-all.ensures)
    ∙ ap (λ n. counts_pieces limits worst (all_behind n) n) c.in_ok-counts.ensures)
    made)
    c.push_counts.ensures
