use Rattle.std.proofs.Common.{[], ◌∷◌, ◌++◌}
use Rattle.std.proofs.lemmas.Result.{on_ok_weaker}
use Rattle.cli_report.specs.Page.{city_pieces, head_view, moments_pieces, to_come_pieces}
use Rattle.cli_report.specs.Pieces.{IsPiece, markup}
use Rattle.cli_report.specs.declared.page.TheConstants.{HEAD}
use Rattle.cli_report.proofs.Written.{both}
use Rattle.cli_report.proofs.page.push_head.Goals as goal

pub returns : goal.returns
returns c =
    let P = IsPiece c.args.zone.now in
    let head = head_view c.args.head.now in
    let city = city_pieces head.city in
    let to_come = to_come_pieces head.to_come in
    let moments = moments_pieces head in
    let old = c.args.out.now.items in
    let one = c.push_markup.new.out.items in
    let two = c.push_city.new.out.items in
    let three = c.push_to_come.new.out.items in
    let new = c.push_moments.new.out.items in
    on_ok_weaker c.push_moments.result
    (λ made. both P (markup HEAD.now ∷ []) (city ++ to_come ++ moments) old one new c.in_ok-push_markup.ensures
    (both P city (to_come ++ moments) one two new c.in_ok-push_city.ensures
    (both P to_come moments two three new c.in_ok-push_to_come.ensures made)))
    c.push_moments.ensures
