use Rattle.std.proofs.Common.{subst}
use Rattle.std.proofs.lemmas.List.{take_all}
use Rattle.cli_report.specs.Pieces.{IsPiece, piece_view}
use Rattle.cli_report.specs.Texts.{Appends, Spells}
use Rattle.cli_report.proofs.Spelled.{one_more}
use Rattle.cli_report.proofs.pieces.push_each.Goals as goal

pub loop-piece-preserved : goal.loop-piece-preserved
loop-piece-preserved c =
    one_more (λ p. IsPiece c.args.zone.now (piece_view p)) c.args.pieces.now c.loop-piece.piece-index c.piece-item.result
    c.args.out.now.items c.loop-piece.out.items c.push_piece.new.out.items
    c.loop-piece-test.true c.piece-item.is c.loop-piece.invariant c.in_ok-push_piece.ensures

pub returns : goal.returns
returns c =
    subst (λ pieces. Appends (Spells (λ p. IsPiece c.args.zone.now (piece_view p)) pieces) c.args.out.now.items c.loop-piece.out.items)
    (take_all c.loop-piece.piece-index c.args.pieces.now c.loop-piece-test.false) c.loop-piece.invariant
