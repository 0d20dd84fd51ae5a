-- The methods of a path.
use Rattle.std.specs.Prelude.{ℕ, List, [], ◌∷◌, ◌++◌, codes, filter, if◌then◌else◌, map, Option, Some, None}
use Rattle.mds_request.specs.Call.{Row, fits, id, row, table, word}
use Rattle.mds_request.specs.declared.request.Verb.{Verb}
use Rattle.mds_request.specs.declared.request.Verb.TheVariants.{Get, Put, Post, Delete, Other}
use Rattle.server_responses.specs.declared.methods.Methods.{Methods}
use Rattle.server_responses.specs.declared.methods.Methods.TheVariants as methods

-- many reports in one body: a path that is this call's alone
abbrev pub events_row : Row
events_row = row Post (word "app" ∷ word "fleet" ∷ word "events" ∷ []) None None

-- the other calls outside the protocol's, by method and path
abbrev pub beside : List Row
beside =
    row Get (word "app" ∷ word "whoami" ∷ []) None None
    ∷ row Get (word "app" ∷ word "withdrawals" ∷ []) None None
    ∷ row Get (word "app" ∷ word "drafts" ∷ []) None None
    ∷ row Get (word "app" ∷ word "compliance" ∷ []) None None
    ∷ row Get (word "app" ∷ word "compliance" ∷ id ∷ []) None None
    ∷ row Get (word "app" ∷ word "fleet" ∷ []) None None
    ∷ row Get (word "app" ∷ word "fleet" ∷ id ∷ []) None None
    ∷ []

-- a method's name (RFC 9110, section 9.1)
abbrev pub name_of : Verb → List ℕ
name_of Get = codes "GET"
name_of Put = codes "PUT"
name_of Post = codes "POST"
name_of Delete = codes "DELETE"
name_of Other = []

-- a list of names (RFC 9110, section 5.6.1)
abbrev pub listed : List (List ℕ) → List ℕ
listed [] = []
listed (name ∷ []) = name
listed (name ∷ next ∷ names) = name ++ codes ", " ++ listed (next ∷ names)

-- the methods of some rows; none, where there are no rows
abbrev pub methods_in : List Row → Option (List ℕ)
methods_in [] = None
methods_in (found ∷ rows) = Some (listed (map (λ r. name_of r.verb) (found ∷ rows)))

-- the rows whose path has these segments
abbrev pub rows_with : List (List ℕ) → List Row → List Row
rows_with segments rows = filter (λ r. fits r.path segments) rows

-- the rows outside the protocol's with these segments
abbrev pub beside_at : List (List ℕ) → List Row
beside_at segments = if fits events_row.path segments then events_row ∷ [] else rows_with segments beside

-- The methods at a path with these segments, of the protocol's calls and of those next to it, as `allow` lists them
-- (RFC 9110, section 10.2.1).
abbrev pub methods_at : List (List ℕ) → Option (List ℕ)
methods_at segments = methods_in (rows_with segments table ++ beside_at segments)

-- the list for one of the sets of methods
abbrev pub text_of : Methods → List ℕ
text_of methods.Get = codes "GET"
text_of methods.Post = codes "POST"
text_of methods.Delete = codes "DELETE"
text_of methods.PutGetDelete = codes "PUT, GET, DELETE"
