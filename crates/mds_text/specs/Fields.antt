-- The members of a document and how each kind of value is read (MDS 2.0, general information; RFC 8259, section 4).
use Rattle.std.specs.Prelude.{ℕ, ℤ, pos, negsuc, List, [], ◌∷◌, Bool, nat_le, if◌then◌else◌, Option, Some, None, Result, Ok, Err, bytes_eq}
use Rattle.uuid.specs.Text.{parsed}
use Rattle.mds_text.specs.Tree.{Json, null, boolean, int, text, list, object, Members, no_members, member, entries}
use Rattle.mds_text.specs.Fault.{Fault, bad_field, out_of_range, ◌>>=◌}
use Rattle.mds_text.specs.Field.{name_of}
use Rattle.mds_text.specs.declared.field.Field.{Field}
use Rattle.mds_text.specs.declared.field.Field.TheVariants.{Document}
use Rattle.mds_text.specs.Vocabulary.{as_token}

-- the value of the first member of this name
abbrev pub find_member : List ℕ → Members → Option Json
find_member name no_members = None
find_member name (member key value rest) = if bytes_eq name key then Some value else find_member name rest

-- null counts as absent
abbrev pub present : Option Json → Option Json
present None = None
present (Some null) = None
present (Some value) = Some value

-- the member of a document: None where it is absent or null; a value that is no object is a bad field of that name
abbrev pub member_at : Json → Field → Result (Option Json) Fault
member_at (object ms) field = Ok (present (find_member (name_of field) ms))
member_at value field = Err (bad_field field)

-- an optional value, read where it is present
abbrev pub optional : {A : Type 0} → (Json → Result A Fault) → Option Json → Result (Option A) Fault
optional read None = Ok None
optional read (Some value) = read value >>= λ a. Ok (Some a)

abbrev pub optional_at : {A : Type 0} → (Field → Json → Result A Fault) → Json → Field → Result (Option A) Fault
optional_at read document field = member_at document field >>= optional (read field)

-- the value, or a bad field where there is none
abbrev pub or_bad : {A : Type 0} → Field → Option A → Result A Fault
or_bad field None = Err (bad_field field)
or_bad field (Some a) = Ok a

-- a member that is required
abbrev pub required_at : {A : Type 0} → (Field → Json → Result A Fault) → Json → Field → Result A Fault
required_at read document field = optional_at read document field >>= or_bad field

-- a member that is required, whatever its value
abbrev pub required_member : Json → Field → Result Json Fault
required_member document field = member_at document field >>= or_bad field

abbrev pub text_of : Field → Json → Result (List ℕ) Fault
text_of field (text s) = Ok s
text_of field value = Err (bad_field field)

-- a UUID in any of its spellings (RFC 9562, section 4)
abbrev pub id_of : Field → Json → Result (List ℕ) Fault
id_of field value = text_of field value >>= λ s. or_bad field (parsed s)

abbrev pub token_of : Field → Json → Result (List ℕ) Fault
token_of field value = text_of field value >>= λ s. or_bad field (as_token s)

-- a whole number from 0 to the greatest that is allowed
abbrev pub up_to : ℕ → ℤ → Result ℕ Fault
up_to most (pos n) = if nat_le n most then Ok n else Err out_of_range
up_to most (negsuc n) = Err out_of_range

abbrev pub int_of : Field → Json → Result ℤ Fault
int_of field (int z) = Ok z
int_of field value = Err (bad_field field)

-- milliseconds since the Unix epoch, up to the end of 2099
abbrev pub last_moment : ℕ
last_moment = 4102444799999

abbrev pub moment_of : Field → Json → Result ℕ Fault
moment_of field value = int_of field value >>= up_to last_moment

abbrev pub most_bound : ℕ
most_bound = 1000000000

abbrev pub bound_of : Field → Json → Result ℕ Fault
bound_of field value = int_of field value >>= up_to most_bound

abbrev pub bool_of : Field → Json → Result Bool Fault
bool_of field (boolean b) = Ok b
bool_of field value = Err (bad_field field)

abbrev pub list_of : Field → Json → Result (List Json) Fault
list_of field (list ts) = Ok (entries ts)
list_of field value = Err (bad_field field)

-- reads each entry in order, up to the first fault
abbrev pub each : {A : Type 0} → (Json → Result A Fault) → List Json → Result (List A) Fault
each read [] = Ok []
each read (t ∷ ts) = read t >>= λ a. each read ts >>= λ rest. Ok (a ∷ rest)

-- a list whose entries are all read in the same way
abbrev pub list_each : {A : Type 0} → (Field → Json → Result A Fault) → Field → Json → Result (List A) Fault
list_each read field value = list_of field value >>= each (read field)

-- the empty list where there is none
abbrev pub or_empty : {A : Type 0} → Option (List A) → List A
or_empty None = []
or_empty (Some xs) = xs

-- an object
abbrev pub object_of : Field → Json → Result Json Fault
object_of field (object ms) = Ok (object ms)
object_of field value = Err (bad_field field)

-- a document is an object
abbrev pub document_of : Json → Result Json Fault
document_of value = object_of Document value
