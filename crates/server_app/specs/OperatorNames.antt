-- The operators' names, how far the author sees how they stand, and the zone in a configuration's text, for people.
use Rattle.std.specs.Prelude.{ℕ, List, nat_le, length, if◌then◌else◌, Option, Some, None, option_and_then, option_map, map, string_bytes, Result, Ok}
use Rattle.mds_text.specs.Fault.{Fault, ◌>>=◌}
use Rattle.mds_text.specs.Fields.{object_of, document_of, member_at, required_at, id_of, text_of, list_of, each}
use Rattle.mds_text.specs.Reading.{read_text}
use Rattle.mds_text.specs.Tree.{Json, text}
use Rattle.mds_text.specs.declared.field.Field.TheVariants.{Operators, Id, Name, Zone}
use Rattle.server_app.specs.declared.operator_names.OperatorName as program
use Rattle.server_app.specs.declared.operator_names.OperatorNames as program'
use Rattle.server_app.specs.declared.operator_names.TheConstants.{MOST_NAME}
use Rattle.server_app.specs.declared.oversight.Oversight.{Oversight}
use Rattle.server_app.specs.Oversight.{oversight_at}

-- an operator's identifier, and its name, where it has one
pub record Badge : Type 0 where
  pub id : List ℕ
  pub name : Option (List ℕ)

-- all operators, in the configuration's order, how far the author sees how each stands, and the zone as it is written
pub record Badges : Type 0 where
  pub operators : List Badge
  pub oversight : Oversight
  pub zone : List ℕ

-- the definition's value of a `OperatorName`
abbrev pub badge_view : program.OperatorName → Badge
badge_view b = record { id = b.id; name = option_map string_bytes b.name }

-- the definition's value of a `OperatorNames`
abbrev pub badges_view : program'.OperatorNames → Badges
badges_view b = record { operators = map badge_view b.operators.items; oversight = b.oversight; zone = string_bytes b.zone }

-- a text of at most 256 bytes is a name; any other value is ignored, as members are that a configuration doesn't have
abbrev pub as_name : Json → Option (List ℕ)
as_name (text s) = if nat_le (length s) MOST_NAME then Some s else None
as_name value = None

abbrev pub name_at : Json → Result (Option (List ℕ)) Fault
name_at entry = member_at entry Name >>= λ value. Ok (option_and_then as_name value)

-- an operator's identifier and name
abbrev pub badge_of : Json → Result Badge Fault
badge_of value = do
  entry ← object_of Operators value
  id ← required_at id_of entry Id
  name ← name_at entry
  Ok (record { id = id; name = name })

abbrev pub badges_of : Json → Result Badges Fault
badges_of value = do
  document ← document_of value
  entries ← required_at list_of document Operators
  operators ← each badge_of entries
  oversight ← oversight_at document
  zone ← required_at text_of document Zone
  Ok (record { operators = operators; oversight = oversight; zone = zone })

-- the operators' names, the oversight and the zone of a configuration's text
abbrev pub read_badges : List ℕ → Result Badges Fault
read_badges bytes = read_text bytes >>= badges_of
