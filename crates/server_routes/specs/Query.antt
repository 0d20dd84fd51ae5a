-- The moment that a query asks for.
use Rattle.std.specs.Prelude.{ℕ, ◌==◌, ◌||◌, List, find, take, drop, Bool, bytes_eq, codes, length, Option, Some, None, if◌then◌else◌, option_map}
use Rattle.std.specs.List.{after_first, filter, slice_split}
use Rattle.mds_request.specs.Call.{is_query_mark}
use Rattle.mds_script.specs.Input.{moment_of}

-- the query of a target: what stands behind its first `?` (RFC 3986, section 3.4)
abbrev pub query_of : List ℕ → List ℕ
query_of target = after_first is_query_mark target

abbrev pub is_ampersand : ℕ → Bool
is_ampersand b = b == 38

abbrev pub parameters : List ℕ → List (List ℕ)
parameters query = slice_split is_ampersand query

-- the name of the parameter, with its value
abbrev pub begins_at : List ℕ → Bool
begins_at parameter = bytes_eq (take 3 parameter) (codes "at=")

-- it is named `at`, whether it has a value or not
abbrev pub is_at : List ℕ → Bool
is_at parameter = bytes_eq parameter (codes "at") || begins_at parameter

-- the moment that is its value
abbrev pub moment_in : List ℕ → Option ℕ
moment_in parameter = if begins_at parameter then moment_of (drop 3 parameter) else None

-- how many parameters are named so
abbrev pub count_at : List ℕ → ℕ
count_at query = length (filter is_at (parameters query))

-- the moment of one of so many, where it is the only one
abbrev pub only_moment : ℕ → List ℕ → Option ℕ
only_moment count parameter = if count == 1 then moment_in parameter else None

-- The moment that a query asks for: none where no parameter is named `at`, and none within where there are several, or
-- where the value of the only one is no moment.
abbrev pub asked_moment : List ℕ → Option (Option ℕ)
asked_moment query = option_map (only_moment (count_at query)) (find is_at (parameters query))
