use Rattle.std.proofs.Common.{[], ◌∷◌, ◌++◌, codes}
use Rattle.std.specs.List.{flat_map}
use Rattle.std.proofs.lemmas.Result.{on_ok_weaker}
use Rattle.cli_report.specs.Days.{grouped}
use Rattle.cli_report.specs.Page.{day_pieces}
use Rattle.cli_report.specs.Pieces.{IsPiece, markup}
use Rattle.cli_report.proofs.Written.{all_flat, both}
use Rattle.cli_report.proofs.rule_section.push_days.Goals as goal

pub returns : goal.returns
returns c =
    let P = IsPiece c.args.zone.now in
    let line = day_pieces c.args.zone.now c.args.span.now.every in
    let days = grouped c.args.samples.now in
    let lines = flat_map line days in
    let end = markup (codes "</table>\n") ∷ [] in
    let old = c.args.out.now.items in
    let one = c.push_markup.new.out.items in
    let two = c.push_day_lines.new.out.items in
    let new = c.push_markup-2.new.out.items in
    on_ok_weaker c.push_markup-2.result
    (λ made. both P (markup (codes "<table>\n") ∷ []) (lines ++ end) old one new c.in_ok-push_markup.ensures
    (both P lines end one two new (all_flat P line days one two c.in_ok-push_day_lines.ensures) made))
    c.push_markup-2.ensures
