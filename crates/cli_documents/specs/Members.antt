-- Members of an imported document.
use Rattle.std.specs.Prelude.{ℕ, List, [], Option, Some, None, option_and_then}
use Rattle.uuid.specs.Text.{parsed}
use Rattle.mds_text.specs.Fields.{find_member, present}
use Rattle.mds_text.specs.Tree.{Json, text, list, object, entries}

-- the member of this name: absent and null are none, and what is no object has none
abbrev pub named : List ℕ → Json → Option Json
named name (object ms) = present (find_member name ms)
named name value = None

abbrev pub as_text : Json → Option (List ℕ)
as_text (text s) = Some s
as_text value = None

-- a UUID in any of its spellings (RFC 9562, section 4)
abbrev pub as_id : Json → Option (List ℕ)
as_id value = option_and_then parsed (as_text value)

abbrev pub as_list : Json → Option (List Json)
as_list (list ts) = Some (entries ts)
as_list value = None

abbrev pub text_named : List ℕ → Json → Option (List ℕ)
text_named name value = option_and_then as_text (named name value)

abbrev pub id_named : List ℕ → Json → Option (List ℕ)
id_named name value = option_and_then as_id (named name value)

abbrev pub list_named : List ℕ → Json → Option (List Json)
list_named name value = option_and_then as_list (named name value)

-- the empty list where there is none
abbrev pub or_none : {A : Type 0} → Option (List A) → List A
or_none None = []
or_none (Some xs) = xs
