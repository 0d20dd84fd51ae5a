-- Fields of CSV that no spreadsheet takes as a formula, and how a row of them is written (RFC 4180, section 2).
use Rattle.std.specs.Prelude.{ℕ, List, [], ◌∷◌, ◌++◌, Bool, ◌||◌, ◌==◌, if◌then◌else◌}
use Rattle.csv.specs.Writing.{default_writer, with_terminator}
use Rattle.csv.specs.declared.parser.Terminator.TheVariants.{CRLF}
use Rattle.csv.specs.declared.writer.WriterBuilder.{WriterBuilder}

-- a text that begins with `=`, `+`, `-`, `@`, a tab or a carriage return may be taken as a formula
abbrev pub begins_formula : ℕ → Bool
begins_formula b = (b == 61) || (b == 43) || (b == 45) || (b == 64) || (b == 9) || (b == 13)

-- an apostrophe in front of it is what keeps it a text
abbrev pub mark : List ℕ → List ℕ
mark [] = []
mark (b ∷ bytes) = if begins_formula b then 39 ∷ [] else []

abbrev pub guarded : List ℕ → List ℕ
guarded bytes = mark bytes ++ bytes

-- how `csv` writes a row: with a comma between two fields, quotation marks round a field that needs them, and a carriage
-- return and a line feed at the end
abbrev pub row_style : WriterBuilder
row_style = with_terminator default_writer CRLF
