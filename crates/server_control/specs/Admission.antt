-- Which requests are let in at a control port: the rules, of which the first that holds decides.
use Rattle.std.specs.Prelude.{ℕ, ◌||◌, ◌==◌, List, [], ◌∷◌, map, Bool, false, true, codes, if◌then◌else◌, Option, Some, None, string_bytes}
use Rattle.server_control.specs.Hosts.{same_name, is_known}
use Rattle.server_control.specs.declared.admission.Admission.{Admission}
use Rattle.server_control.specs.declared.admission.Admission.TheVariants.{Admitted, Malformed, Forbidden}
use Rattle.server_control.specs.declared.hosts.Hosts.{Hosts}
use Rattle.server_control.specs.declared.hosts.Hosts.TheVariants.{Any, Named}

-- the value of the first field of this name
abbrev pub field_of : List ℕ → List (List ℕ × List ℕ) → Option (List ℕ)
field_of name [] = None
field_of name (field ∷ fields) = if same_name name field.0 then Some field.1 else field_of name fields

abbrev pub is_there : Option (List ℕ) → Bool
is_there None = false
is_there (Some value) = true

abbrev pub has_field : List ℕ → List (List ℕ × List ℕ) → Bool
has_field name fields = is_there (field_of name fields)

-- there is a further field of this name after the first
abbrev pub has_several : List ℕ → List (List ℕ × List ℕ) → Bool
has_several name [] = false
has_several name (field ∷ fields) = if same_name name field.0 then has_field name fields else has_several name fields

-- a page in a browser sends it: `Origin` (RFC 6454, section 7) and `Sec-Fetch-Site` (Fetch Metadata, section 2.3) are
-- fields that no page can leave out
abbrev pub is_from_page : List (List ℕ × List ℕ) → Bool
is_from_page fields = has_field (codes "origin") fields || has_field (codes "sec-fetch-site") fields

-- HTTP/1.1 has one host (RFC 9112, section 3.2), HTTP/1.0 none, which no browser speaks
abbrev pub admission_without : ℕ → Admission
admission_without minor = if minor == 0 then Admitted else Malformed

abbrev pub admission_at : List (List ℕ) → ℕ → Option (List ℕ) → Admission
admission_at hosts minor None = admission_without minor
admission_at hosts minor (Some host) = if is_known hosts host then Admitted else Forbidden

abbrev pub host_admission : Hosts → ℕ → List (List ℕ × List ℕ) → Admission
host_admission Any minor fields = Admitted
host_admission (Named names) minor fields =
    if has_several (codes "host") fields then Malformed
    else admission_at (map string_bytes names.items) minor (field_of (codes "host") fields)

abbrev pub admission_of : Hosts → ℕ → List (List ℕ × List ℕ) → Admission
admission_of hosts minor fields = if is_from_page fields then Forbidden else host_admission hosts minor fields
