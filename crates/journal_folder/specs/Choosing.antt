-- Which entries of a journal are replayed, and which are extracted.
use Rattle.std.specs.Prelude.{ℕ, Bool, true, false, not, List, [], ◌∷◌, map, bytes_eq, nat_lt, if◌then◌else◌, Option, Some, None}
use Rattle.std.specs.List.{filter, list_any}
use Rattle.journal_entry.specs.Entries.{Entry}
use Rattle.journal_entry.specs.Heads.{Share}
use Rattle.journal_entry.specs.declared.entry.EntryClient.{EntryClient}
use Rattle.journal_entry.specs.declared.entry.EntryClient.TheVariants.{Author, Operator}

-- one of these operators, which are left out
abbrev pub is_dropped : List (List ℕ) → List ℕ → Bool
is_dropped dropped id = list_any (bytes_eq id) dropped

-- the client is left out
abbrev pub asks_dropped : List (List ℕ) → EntryClient → Bool
asks_dropped dropped Author = false
asks_dropped dropped (Operator id) = is_dropped dropped id

-- the entries of all but these operators
abbrev pub without : List (List ℕ) → List Entry → List Entry
without dropped entries = filter (λ e. not (asks_dropped dropped e.client)) entries

-- What a head requires of a configuration: each operator of it that isn't left out. Its limit doesn't matter here:
-- whether a lower one has room for what is persisted shows as the entries are replayed.
abbrev pub present : Share → Share
present share = record { id = share.id; vehicles = 0 }

abbrev pub needed : List (List ℕ) → List Share → List Share
needed dropped shares = map present (filter (λ s. not (is_dropped dropped s.id)) shares)

-- an entry of the author, or of the operator that is asked for, or of any where none is
abbrev pub concerns : Option (List ℕ) → EntryClient → Bool
concerns None client = true
concerns (Some operator) Author = true
concerns (Some operator) (Operator id) = bytes_eq id operator

-- later than the last moment that is asked for
abbrev pub is_later : Option ℕ → ℕ → Bool
is_later None at = false
is_later (Some last) at = nat_lt last at

-- the entries before the first that is later
abbrev pub in_time : Option ℕ → List Entry → List Entry
in_time last [] = []
in_time last (e ∷ entries) = if is_later last e.at then [] else e ∷ in_time last entries

-- the entries that are extracted: of those, the ones of the author and of the operator that is asked for
abbrev pub told : Option ℕ → Option (List ℕ) → List Entry → List Entry
told last operator entries = filter (λ e. concerns operator e.client) (in_time last entries)
