-- The path of the member that an error is in, and its value in the text.
use Rattle.std.specs.Prelude.{ℕ, List, [], ◌∷◌, ◌++◌, Bool, true, false, ◌&&◌, ◌==◌, nat_le, bytes_eq, codes, decimal, map, if◌then◌else◌, Option, Some, None}
use Rattle.mds_config_error.specs.declared.wrong.OperatorFlaw.TheVariants as flaw
use Rattle.mds_config_error.specs.declared.wrong.OperatorFlaw.{OperatorFlaw}
use Rattle.mds_config_error.specs.declared.wrong.Key.{Key}
use Rattle.mds_config_error.specs.declared.wrong.Key.TheVariants as key
use Rattle.mds_config_error.specs.declared.wrong.Wrong.{Wrong}
use Rattle.mds_config_error.specs.declared.wrong.Wrong.TheVariants as wrong
use Rattle.cli_config.specs.declared.members.KnownMember.{KnownMember}
use Rattle.cli_config.specs.declared.members.KnownMember.TheVariants.{Author, Operators, Zone, Id, Limit, Token}
use Rattle.cli_config.specs.declared.paths.Path.{Path}
use Rattle.cli_config.specs.declared.paths.Path.TheVariants as path
use Rattle.cli_config.specs.declared.located_members.MemberOwner.{MemberOwner}
use Rattle.cli_config.specs.declared.located_members.MemberOwner.TheVariants.{Document, Operator}
use Rattle.cli_config.specs.declared.located_members.Value.{Value}
use Rattle.cli_config.specs.Names.{name_of}
use Rattle.cli_config.specs.LocatedMembers.{Seen, has_name}

-- a flaw of the operator at a place
abbrev pub flaw_path : ℕ → OperatorFlaw → Path
flaw_path place flaw.Entry = path.Operator place
flaw_path place flaw.Id = path.OfOperator place Id
flaw_path place flaw.Limit = path.OfOperator place Limit
flaw_path place flaw.LimitRange = path.OfOperator place Limit
flaw_path place flaw.Token = path.OfOperator place Token

abbrev pub key_member : Key → KnownMember
key_member key.Id = Id
key_member key.Token = Token

-- of two operators with the same value, the path of the second
abbrev pub wrong_path : Wrong → Path
wrong_path wrong.Json = path.Document
wrong_path wrong.Document = path.Document
wrong_path wrong.Author = path.Member Author
wrong_path wrong.Operators = path.Member Operators
wrong_path wrong.TooManyOperators = path.Member Operators
wrong_path (wrong.Operator place f) = flaw_path place f
wrong_path wrong.Zone = path.Member Zone
wrong_path (wrong.Alike k first second) = path.OfOperator second (key_member k)
wrong_path (wrong.AuthorsToken place) = path.OfOperator place Token

abbrev pub is_document : MemberOwner → Bool
is_document Document = true
is_document (Operator place) = false

abbrev pub is_operator : ℕ → MemberOwner → Bool
is_operator place Document = false
is_operator place (Operator own) = place == own

-- an operator itself, or its member of this name
abbrev pub names_or_is : List ℕ → Option (List ℕ) → Bool
names_or_is name None = true
names_or_is name (Some own) = bytes_eq name own

abbrev pub is_nameless : Option (List ℕ) → Bool
is_nameless None = true
is_nameless (Some own) = false

-- a path means the member, or the operator that may lack it
abbrev pub is_meant : Path → Seen → Bool
is_meant path.Document spot = false
is_meant (path.Member k) spot = is_document spot.owner && has_name (name_of k) spot.name
is_meant (path.Operator place) spot = is_operator place spot.owner && is_nameless spot.name
is_meant (path.OfOperator place k) spot = is_operator place spot.owner && names_or_is (name_of k) spot.name

-- the last value that a path means, as the last of equal names is read
abbrev pub last_meant : Path → Option Value → List Seen → Option Value
last_meant path found [] = found
last_meant path found (s ∷ ss) = last_meant path (if is_meant path s then Some s.value else found) ss

-- printable ASCII, and a question mark in place of any other byte
abbrev pub shown_byte : ℕ → ℕ
shown_byte b = if nat_le 32 b && nat_le b 126 then b else 63

abbrev pub shown : List ℕ → List ℕ
shown name = map shown_byte name

abbrev pub operator_text : ℕ → List ℕ
operator_text place = codes "operators[" ++ decimal place ++ codes "]"

abbrev pub path_text : Path → List ℕ
path_text path.Document = []
path_text (path.Member k) = name_of k
path_text (path.Operator place) = operator_text place
path_text (path.OfOperator place k) = operator_text place ++ codes "." ++ name_of k

-- a member by its path
abbrev pub named_text : MemberOwner → Option (List ℕ) → List ℕ
named_text Document None = []
named_text Document (Some name) = shown name
named_text (Operator place) None = operator_text place
named_text (Operator place) (Some name) = operator_text place ++ codes "." ++ shown name

abbrev pub spot_text : Seen → List ℕ
spot_text spot = named_text spot.owner spot.name
