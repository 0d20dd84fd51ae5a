-- The tokens of a text once its numbers that aren't plain are quoted.
use Rattle.std.specs.Prelude.{List, [], ◌∷◌, Bool, true, ◌&&◌, if◌then◌else◌}
use Rattle.json.specs.Token.{Token}
use Rattle.json.specs.Lex.{Lexeme, token, comma, colon}
use Rattle.json.specs.Align.{is_good}
use Rattle.json.specs.Json as json
use Rattle.mds_text.specs.Quoting.{is_quoted}

-- a number that isn't plain becomes a string
abbrev pub turned : Token → Token
turned Token.begin_object = Token.begin_object
turned Token.end_object = Token.end_object
turned Token.begin_array = Token.begin_array
turned Token.end_array = Token.end_array
turned (Token.key s) = Token.key s
turned (Token.string s) = Token.string s
turned (Token.number s) = if is_quoted s then Token.string s else Token.number s
turned (Token.boolean b) = Token.boolean b
turned Token.null = Token.null
turned Token.bad = Token.bad

abbrev pub turned_lexeme : Lexeme → Lexeme
turned_lexeme (token t) = token (turned t)
turned_lexeme comma = comma
turned_lexeme colon = colon

abbrev pub no_bad : List Token → Bool
no_bad [] = true
no_bad (t ∷ ts) = is_good t && no_bad ts

abbrev pub well : List Lexeme → Bool
well [] = true
well (token t ∷ ls) = is_good t && well ls
well (comma ∷ ls) = well ls
well (colon ∷ ls) = well ls

-- the same of a value
abbrev mutual
  pub turned_value : json.Json → json.Json
  turned_value json.null = json.null
  turned_value (json.boolean b) = json.boolean b
  turned_value (json.number s) = if is_quoted s then json.string s else json.number s
  turned_value (json.string s) = json.string s
  turned_value (json.array js) = json.array (turned_items js)
  turned_value (json.object ms) = json.object (turned_members ms)

  pub turned_items : json.Items → json.Items
  turned_items json.no_items = json.no_items
  turned_items (json.item j js) = json.item (turned_value j) (turned_items js)

  pub turned_members : json.Members → json.Members
  turned_members json.no_members = json.no_members
  turned_members (json.member k j ms) = json.member k (turned_value j) (turned_members ms)
