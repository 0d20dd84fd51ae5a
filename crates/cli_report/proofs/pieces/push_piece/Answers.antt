use Rattle.std.proofs.Common.{◌++◌, sym, ap, subst, ◌∙◌}
use Rattle.std.proofs.lemmas.Result.{on_ok_weaker}
use Rattle.cli_report.specs.Pieces.{IsPiece, piece_view}
use Rattle.cli_report.specs.Texts.{Appends}
use Rattle.cli_report.specs.declared.pieces.PagePiece as program
use Rattle.cli_report.proofs.Written.{markup_made}
use Rattle.cli_report.proofs.pieces.push_piece.Goals as goal

pub returns-in-Markup : goal.returns-in-Markup
returns-in-Markup c =
    let old = c.args.out.now.items in
    let new = c.push_bytes.new.out.items in
    on_ok_weaker c.push_bytes.result
    (λ made. subst (λ (p : program.PagePiece). Appends (IsPiece c.args.zone.now (piece_view p)) old new) (sym c.in-Markup.is)
    (markup_made c.args.zone.now c.in-Markup.text.now old new (made ∙ ap (λ s. old ++ s) c.as_bytes.ensures.value)))
    c.push_bytes.ensures

pub returns-in-Drawn : goal.returns-in-Drawn
returns-in-Drawn c =
    let old = c.args.out.now.items in
    let new = c.push_bytes-in-Drawn.new.out.items in
    on_ok_weaker c.push_bytes-in-Drawn.result
    (λ made. subst (λ (p : program.PagePiece). Appends (IsPiece c.args.zone.now (piece_view p)) old new) (sym c.in-Drawn.is)
    (markup_made c.args.zone.now c.in-Drawn.text.now old new made))
    c.push_bytes-in-Drawn.ensures
