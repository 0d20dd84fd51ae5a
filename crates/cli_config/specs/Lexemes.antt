-- Where the lexemes of a JSON text begin (RFC 8259, section 2): structural characters, strings, and literal names and numbers.
use Rattle.std.specs.Prelude.{ℕ, ◌+◌, List, [], ◌∷◌, ◌++◌, Bool, true, false, ◌||◌, ◌==◌, if◌then◌else◌, Option, Some, None}
use Rattle.cli_config.specs.declared.lexemes.LexemeAt.{LexemeAt}
use Rattle.cli_config.specs.declared.lexemes.Mode.{Mode}
use Rattle.cli_config.specs.declared.lexemes.Mode.TheVariants.{Between, Word, Quoted, Escaped}
use Rattle.cli_config.specs.declared.lexemes.LexemeKind.{LexemeKind}
use Rattle.cli_config.specs.declared.lexemes.LexemeKind.TheVariants as sign

abbrev pub is_space : ℕ → Bool
is_space b = (b == 32) || (b == 9) || (b == 10) || (b == 13)

-- the structural character or the string that begins with a byte
abbrev pub structural : ℕ → Option LexemeKind
structural b =
    if b == 123 then Some sign.OpenObject else if b == 125 then Some sign.CloseObject
    else if b == 91 then Some sign.OpenList else if b == 93 then Some sign.CloseList
    else if b == 58 then Some sign.Colon else if b == 44 then Some sign.Comma
    else if b == 34 then Some sign.Text else None

-- by its first byte: `true` and `false`, `null`, or a number
abbrev pub word_sign : ℕ → LexemeKind
word_sign b = if (b == 116) || (b == 102) then sign.Truth else if b == 110 then sign.Null else sign.Number

-- the lexeme that begins at a byte outside of a string, by whether a word may go on there
abbrev pub begun_outside : Bool → ℕ → Option LexemeKind → Option LexemeKind
begun_outside goes_on b (Some s) = Some s
begun_outside goes_on b None = if is_space b || goes_on then None else Some (word_sign b)

-- the lexeme that begins at a byte, if one does
abbrev pub begun : Mode → ℕ → Option LexemeKind
begun Between b = begun_outside false b (structural b)
begun Word b = begun_outside true b (structural b)
begun Quoted b = None
begun Escaped b = None

abbrev pub mode_outside : ℕ → Option LexemeKind → Mode
mode_outside b None = if is_space b then Between else Word
mode_outside b (Some sign.Text) = Quoted
mode_outside b (Some s) = Between

-- the state after a byte
abbrev pub mode_after : Mode → ℕ → Mode
mode_after Between b = mode_outside b (structural b)
mode_after Word b = mode_outside b (structural b)
mode_after Quoted b = if b == 34 then Between else if b == 92 then Escaped else Quoted
mode_after Escaped b = Quoted

abbrev pub mark_at : ℕ → Option LexemeKind → List LexemeAt
mark_at at None = []
mark_at at (Some s) = record { at = at; sign = s } ∷ []

abbrev pub marks_from : Mode → ℕ → List ℕ → List LexemeAt
marks_from mode at [] = []
marks_from mode at (b ∷ bs) = mark_at at (begun mode b) ++ marks_from (mode_after mode b) (at + 1) bs

-- the lexemes of a text
abbrev pub marks_of : List ℕ → List LexemeAt
marks_of text = marks_from Between 0 text
