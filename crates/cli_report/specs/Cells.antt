-- Cells and rows of a report, and how they are written (RFC 4180, section 2).
use Rattle.std.specs.Prelude.{◌≡◌, ℕ, ◌+◌, ◌/◌, List, [], ◌∷◌, Option, Some, None}
use Rattle.std.specs.Fmt.{decimal}
use Rattle.uuid.specs.Text.{hyphenated_text, lower}
use Rattle.mds_match.specs.Zone.{ZoneKind}
use Rattle.cli_calendar.specs.Clocks.{clock_at}
use Rattle.cli_calendar.specs.Texts.{IsDay, IsLocal, IsUtc}
use Rattle.csv.specs.Writing.{row_text}
use Rattle.cli_report.specs.Csv.{guarded, row_style}
use Rattle.cli_report.specs.declared.cell.CellValue as program
use Rattle.cli_report.specs.declared.cell.CellValue.TheVariants as cell

-- what a cell tells: a text, an identifier, a number, a number where there is one, a moment in UTC, a moment in the city's
-- zone where there is one, and the local day of a moment
pub data Cell : Type 0 where
  text : List ℕ → Cell
  identifier : List ℕ → Cell
  number : ℕ → Cell
  number_if : Option ℕ → Cell
  utc : ℕ → Cell
  local : Option ℕ → Cell
  day : ℕ → Cell

-- the cell that a `CellValue` of the program stands for
abbrev pub cell_view : program.CellValue → Cell
cell_view (cell.Text bytes) = text bytes.now
cell_view (cell.Id id) = identifier id
cell_view (cell.Number n) = number n
cell_view (cell.Place n) = number (n + 1)
cell_view (cell.Bound limit) = number_if limit
cell_view (cell.NumberIf n) = number_if n
cell_view (cell.Utc t) = utc t
cell_view (cell.Local moment) = local moment
cell_view (cell.Day t) = day t

abbrev pub number_text_if : Option ℕ → List ℕ
number_text_if None = []
number_text_if (Some n) = decimal n

abbrev pub IsLocalIf : ZoneKind → Option ℕ → List ℕ → Type 0
IsLocalIf zone None bytes = bytes ≡ []
IsLocalIf zone (Some t) bytes = IsLocal zone t bytes

-- the text that a cell has
abbrev pub IsText : ZoneKind → Cell → List ℕ → Type 0
IsText zone (text s) bytes = bytes ≡ s
IsText zone (identifier id) bytes = bytes ≡ hyphenated_text lower id
IsText zone (number n) bytes = bytes ≡ decimal n
IsText zone (number_if n) bytes = bytes ≡ number_text_if n
IsText zone (utc t) bytes = IsUtc t bytes
IsText zone (local moment) bytes = IsLocalIf zone moment bytes
IsText zone (day t) bytes = IsDay (clock_at zone t / 86400) bytes

-- the text as a field of a row
unfoldable pub IsField : ZoneKind → Cell → List ℕ → Type 0
IsField zone c bytes = (plain : List ℕ) × IsText zone c plain × (bytes ≡ guarded plain)

-- a field for each cell
abbrev pub AreFields : ZoneKind → List Cell → List (List ℕ) → Type 0
AreFields zone [] fields = fields ≡ []
AreFields zone (c ∷ cells) fields =
    (first : List ℕ) × (others : List (List ℕ)) × IsField zone c first × AreFields zone cells others × (fields ≡ first ∷ others)

-- the row of these fields, as `csv` writes it
unfoldable pub IsRow : ZoneKind → List Cell → List ℕ → Type 0
IsRow zone cells bytes = (fields : List (List ℕ)) × AreFields zone cells fields × (bytes ≡ row_text row_style fields)
