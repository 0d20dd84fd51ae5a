-- How far the author sees how each operator stands, in a configuration's document.
use Rattle.std.specs.Prelude.{ℕ, List, bytes_eq, codes, if◌then◌else◌, Option, Some, Result, Ok, Err}
use Rattle.mds_text.specs.Fault.{Fault, bad_field}
use Rattle.mds_text.specs.Fields.{find_member}
use Rattle.mds_text.specs.Tree.{Json, text, object}
use Rattle.mds_text.specs.declared.field.Field.TheVariants.{Document}
use Rattle.server_app.specs.declared.oversight.Oversight.{Oversight}
use Rattle.server_app.specs.declared.oversight.Oversight.TheVariants.{Nothing, Verdicts, Vehicles}

-- the text for it
abbrev pub oversight_word : Oversight → List ℕ
oversight_word Nothing = codes "none"
oversight_word Verdicts = codes "verdicts"
oversight_word Vehicles = codes "vehicles"

-- what a text stands for; where it is none of the three, nobody is watched
abbrev pub oversight_of : List ℕ → Oversight
oversight_of word =
    if bytes_eq word (oversight_word Verdicts) then Verdicts
    else if bytes_eq word (oversight_word Vehicles) then Vehicles
    else Nothing

-- the value of the member: nobody is watched where it is absent, or no text. No server starts with a value other than
-- the three texts and null, so that only a text which nobody serves is read so.
abbrev pub as_oversight : Option Json → Oversight
as_oversight (Some (text word)) = oversight_of word
as_oversight value = Nothing

-- the member of a configuration's document
abbrev pub oversight_at : Json → Result Oversight Fault
oversight_at (object ms) = Ok (as_oversight (find_member (codes "oversight") ms))
oversight_at value = Err (bad_field Document)
