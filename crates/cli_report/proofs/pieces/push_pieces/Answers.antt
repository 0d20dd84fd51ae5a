use Rattle.std.proofs.lemmas.Result.{on_ok_weaker}
use Rattle.cli_report.specs.Pieces.{IsPiece, piece_view}
use Rattle.cli_report.proofs.Spelled.{spelled_map}
use Rattle.cli_report.proofs.pieces.push_pieces.Goals as goal

pub returns : goal.returns
returns c =
    on_ok_weaker c.push_each.result
    (λ made. (made.0, spelled_map (IsPiece c.args.zone.now) piece_view c.args.pieces.now made.0 made.1, made.2))
    c.push_each.ensures
