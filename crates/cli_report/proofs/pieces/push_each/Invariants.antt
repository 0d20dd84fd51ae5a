use Rattle.std.proofs.Common.{take}
use Rattle.cli_report.specs.Pieces.{IsPiece, piece_view}
use Rattle.cli_report.specs.Texts.{Appends, Spells}
use Rattle.cli_report.proofs.pieces.push_each.Given as goal

-- the pieces so far
abbrev pub invariant-loop-piece : goal.invariant-loop-piece
invariant-loop-piece l = Appends (Spells (λ p. IsPiece l.zone (piece_view p)) (take l.piece-index l.pieces)) l.fn.out.items l.out.items
