-- Pieces of a page: markup as it is, and values, whose texts are escaped.
use Rattle.std.specs.Prelude.{◌≡◌, ℕ, ◌==◌, List, [], ◌∷◌, codes, if◌then◌else◌}
use Rattle.std.specs.List.{flat_map}
use Rattle.mds_match.specs.Zone.{ZoneKind}
use Rattle.cli_report.specs.Cells.{Cell, IsText, cell_view}
use Rattle.cli_report.specs.Texts.{Spells}
use Rattle.cli_report.specs.declared.pieces.PagePiece as program
use Rattle.cli_report.specs.declared.pieces.PagePiece.TheVariants as piece

-- a byte of a text: the five that mean something in HTML are written as references (HTML, section 13.5)
abbrev pub escaped_byte : ℕ → List ℕ
escaped_byte b =
    if b == 38 then codes "&amp;"
    else if b == 60 then codes "&lt;"
    else if b == 62 then codes "&gt;"
    else if b == 34 then codes "&quot;"
    else if b == 39 then codes "&#39;"
    else b ∷ []

abbrev pub escaped : List ℕ → List ℕ
escaped bytes = flat_map escaped_byte bytes

-- markup, and a value as a cell has it
pub data Piece : Type 0 where
  markup : List ℕ → Piece
  value : Cell → Piece

-- the piece that a `PagePiece` of the program stands for
abbrev pub piece_view : program.PagePiece → Piece
piece_view (piece.Markup text) = markup text.now
piece_view (piece.Drawn text) = markup text.now
piece_view (piece.Value cell) = value (cell_view cell)

-- the bytes of a piece
unfoldable pub IsPiece : ZoneKind → Piece → List ℕ → Type 0
IsPiece zone (markup text) bytes = bytes ≡ text
IsPiece zone (value cell) bytes = (plain : List ℕ) × IsText zone cell plain × (bytes ≡ escaped plain)

-- pieces, one behind the other
abbrev pub IsWritten : ZoneKind → List Piece → List ℕ → Type 0
IsWritten zone pieces bytes = Spells (IsPiece zone) pieces bytes
