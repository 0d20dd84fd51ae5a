-- The members of a configuration and of its operators, and the operators themselves, in the order of the text. For a
-- text that is no JSON they mean nothing.
use Rattle.std.specs.Prelude.{ℕ, ◌+◌, ◌-◌, List, [], ◌∷◌, ◌++◌, Bool, true, false, ◌&&◌, ◌==◌, nat_lt, length, bytes_eq, codes, if◌then◌else◌, Option, Some, None, option_map, option_to_list, string_bytes}
use Rattle.cli_config.specs.declared.lexemes.LexemeAt.{LexemeAt}
use Rattle.cli_config.specs.declared.lexemes.LexemeKind.{LexemeKind}
use Rattle.cli_config.specs.declared.lexemes.LexemeKind.TheVariants as sign
use Rattle.cli_config.specs.declared.located_members.MemberOwner.{MemberOwner}
use Rattle.cli_config.specs.declared.located_members.MemberOwner.TheVariants.{Document, Operator}
use Rattle.cli_config.specs.declared.located_members.LocatedMember.{LocatedMember}
use Rattle.cli_config.specs.declared.located_members.Value.{Value}
use Rattle.cli_config.specs.declared.walk.Walk.{Walk}
use Rattle.cli_config.specs.Lexemes.{marks_of}
use Rattle.cli_config.specs.Pieces.{piece, unquoted}

-- a member, or an operator, which has no name; the offset of its name, or else of its value; and its value, with the
-- kind of its first lexeme
pub record Seen : Type 0 where
  pub owner : MemberOwner
  pub name : Option (List ℕ)
  pub at : ℕ
  pub value : Value

abbrev pub seen : LocatedMember → Seen
seen spot = record { owner = spot.owner; name = option_map string_bytes spot.name; at = spot.at; value = spot.value }

-- the offset at which the lexeme before these ends at the latest
abbrev pub next_at : ℕ → List LexemeAt → ℕ
next_at end [] = end
next_at end (m ∷ ms) = m.at

abbrev pub value_at : ℕ → LexemeAt → List LexemeAt → Value
value_at end m ms = record { from = m.at; to = next_at end ms; sign = m.sign }

abbrev pub is_text : LexemeKind → Bool
is_text sign.Text = true
is_text other = false

abbrev pub is_colon : LexemeKind → Bool
is_colon sign.Colon = true
is_colon other = false

abbrev pub is_list : LexemeKind → Bool
is_list sign.OpenList = true
is_list other = false

abbrev pub begins_value : LexemeKind → Bool
begins_value sign.OpenObject = true
begins_value sign.OpenList = true
begins_value sign.Text = true
begins_value sign.Truth = true
begins_value sign.Null = true
begins_value sign.Number = true
begins_value other = false

-- a member (RFC 8259, section 4): a string, a colon and a value
abbrev pub member_from : List ℕ → MemberOwner → List LexemeAt → Option Seen
member_from bytes owner (m ∷ c ∷ v ∷ ms) =
    if is_text m.sign && is_colon c.sign
    then Some (record { owner = owner; name = Some (unquoted (piece bytes m.at c.at)); at = m.at; value = value_at (length bytes) v ms })
    else None
member_from bytes owner other = None

-- an entry of the operators' list
abbrev pub entry_from : List ℕ → ℕ → List LexemeAt → Option Seen
entry_from bytes place [] = None
entry_from bytes place (m ∷ ms) =
    if begins_value m.sign
    then Some (record { owner = Operator place; name = None; at = m.at; value = value_at (length bytes) m ms })
    else None

-- within the operators' list, and in none of its entries
abbrev pub is_in_list : Walk → Bool
is_in_list walk = walk.listed && (walk.depth == 2)

-- the member or operator at the beginning of these lexemes, by how many brackets are open: one is the document's, three
-- are those of an operator
abbrev pub spot_in : List ℕ → Walk → List LexemeAt → Option Seen
spot_in bytes walk ms =
    if walk.depth == 1 then member_from bytes Document ms
    else if is_in_list walk then entry_from bytes walk.place ms
    else if walk.listed && (walk.depth == 3) then member_from bytes (Operator walk.place) ms
    else None

abbrev pub has_name : List ℕ → Option (List ℕ) → Bool
has_name name None = false
has_name name (Some own) = bytes_eq name own

-- the operators' list begins after this member's name
abbrev pub lists_operators : Option Seen → Bool
lists_operators None = false
lists_operators (Some spot) = has_name (codes "operators") spot.name && is_list spot.value.sign

-- the state of the walk after a lexeme
abbrev pub walk_after : Walk → LexemeKind → Option Seen → Walk
walk_after walk sign.OpenObject spot = record { depth = walk.depth + 1; listed = walk.listed; place = walk.place }
walk_after walk sign.OpenList spot = record { depth = walk.depth + 1; listed = walk.listed; place = walk.place }
walk_after walk sign.CloseObject spot = record { depth = walk.depth - 1; listed = walk.listed && nat_lt 2 walk.depth; place = walk.place }
walk_after walk sign.CloseList spot = record { depth = walk.depth - 1; listed = walk.listed && nat_lt 2 walk.depth; place = walk.place }
walk_after walk sign.Comma spot = record { depth = walk.depth; listed = walk.listed; place = if is_in_list walk then walk.place + 1 else walk.place }
walk_after walk sign.Text spot =
    if walk.depth == 1 then record { depth = 1; listed = lists_operators spot; place = 0 } else walk
walk_after walk other spot = walk

abbrev pub spots_from : List ℕ → Walk → List LexemeAt → List Seen
spots_from bytes walk [] = []
spots_from bytes walk (m ∷ ms) =
    option_to_list (spot_in bytes walk (m ∷ ms)) ++ spots_from bytes (walk_after walk m.sign (spot_in bytes walk (m ∷ ms))) ms

abbrev pub start : Walk
start = record { depth = 0; listed = false; place = 0 }

-- those of a text
abbrev pub spots_of : List ℕ → List Seen
spots_of bytes = spots_from bytes start (marks_of bytes)
