-- Reading a publish request.
use Rattle.std.specs.Prelude.{ℕ, List, Bool, ◌&&◌, ◌==◌, length, if◌then◌else◌, Result, Ok, Err}
use Rattle.mds_text.specs.Tree.{Json}
use Rattle.mds_text.specs.Fault.{Fault, bad_field, ◌>>=◌}
use Rattle.mds_text.specs.Fields.{optional_at, id_of, list_each, or_empty, document_of}
use Rattle.mds_text.specs.Reading.{read_text}
use Rattle.mds_text.specs.declared.field.Field.{Field}
use Rattle.mds_text.specs.declared.field.Field.TheVariants.{Geographies, Policies, Withdraw}
use Rattle.mds_catalog.specs.Publication.{are_distinct}

-- the identifiers that a publish request names: of drafts of both kinds, and of published policies to withdraw
pub record Named : Type 0 where
  pub geographies : List (List ℕ)
  pub policies : List (List ℕ)
  pub withdraw : List (List ℕ)

-- an optional list of distinct identifiers
abbrev pub distinct_ids_at : Json → Field → Result (List (List ℕ)) Fault
distinct_ids_at document field = do
  ids ← optional_at (list_each id_of) document field
  if are_distinct (or_empty ids) then Ok (or_empty ids) else Err (bad_field field)

-- a publish request, line by line of its table
abbrev pub publish_list_of : Json → Result Named Fault
publish_list_of tree = do
  document ← document_of tree
  geographies ← distinct_ids_at document Geographies
  policies ← distinct_ids_at document Policies
  withdraw ← distinct_ids_at document Withdraw
  Ok (record { geographies = geographies; policies = policies; withdraw = withdraw })

abbrev pub read_publish_list : List ℕ → Result Named Fault
read_publish_list text = read_text text >>= publish_list_of

abbrev pub names_nothing : Named → Bool
names_nothing named = (length named.geographies == 0) && (length named.policies == 0) && (length named.withdraw == 0)
