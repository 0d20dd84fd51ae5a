-- The period of a query: which policies of the list it asks for, by the moments at which they hold (MDS 2.0 Policy,
-- query parameters `start_date` and `end_date`, in milliseconds since the Unix epoch).
use Rattle.std.specs.Prelude.{ℕ, ◌==◌, ◌&&◌, List, find, take, drop, length, Bool, true, nat_le, nat_lt, bytes_eq, codes, Option, Some, None, if◌then◌else◌}
use Rattle.std.specs.Char.{is_ascii_digit}
use Rattle.std.specs.List.{list_all, slice_split}
use Rattle.std.specs.Option.{option_map_or}
use Rattle.std.specs.Str.{is_utf8}
use Rattle.std.specs.Str.Parse.{digits_value}
use Rattle.server_public.specs.Documents.{Notice}
use Rattle.server_public.specs.declared.period.Period.{Period}

abbrev pub is_ampersand : ℕ → Bool
is_ampersand b = b == 38

-- a parameter begins with a name and `=`
abbrev pub begins : List ℕ → List ℕ → Bool
begins name parameter = bytes_eq (take (length name) parameter) name

-- the bytes after a name in a parameter that begins with it
abbrev pub stripped : List ℕ → List ℕ → Option (List ℕ)
stripped name parameter = if begins name parameter then Some (drop (length name) parameter) else None

-- the value of a parameter, if there is one
abbrev pub value_in : List ℕ → Option (List ℕ) → Option (List ℕ)
value_in name None = None
value_in name (Some parameter) = stripped name parameter

-- the value of the first parameter that begins with this name
abbrev pub value_of : List ℕ → List ℕ → Option (List ℕ)
value_of name query = value_in name (find (begins name) (slice_split is_ampersand query))

-- a moment as a parameter has it: one to eighteen decimal digits
abbrev pub is_moment : List ℕ → Bool
is_moment text = nat_lt 0 (length text) && nat_le (length text) 18 && list_all is_ascii_digit text

-- the number that it writes
abbrev pub number_in : List ℕ → Option ℕ
number_in text = if is_moment text then Some (digits_value 10 text) else None

-- the moment of a number; none where there is none
abbrev pub as_given : Option ℕ → Option (Option ℕ)
as_given None = None
as_given (Some moment) = Some (Some moment)

abbrev pub moment_at : List ℕ → Option (Option ℕ)
moment_at text = if is_utf8 text then as_given (number_in text) else None

-- an optional moment: none where it isn't given, and an error where it is no moment
abbrev pub moment_in : Option (List ℕ) → Option (Option ℕ)
moment_in None = Some None
moment_in (Some text) = moment_at text

-- the moments from which and up to which
abbrev pub both : Option (Option ℕ) → Option (Option ℕ) → Option Period
both (Some from) (Some to) = Some (record { from = from; to = to })
both from to = None

-- the period of a query; none where one of its moments is none
abbrev pub period_in : List ℕ → Option Period
period_in query = both (moment_in (value_of (codes "start_date=") query)) (moment_in (value_of (codes "end_date=") query))

-- it hasn't ended by the beginning of the period, and has taken effect by its end
abbrev pub is_in : Period → Notice → Bool
is_in period n =
    option_map_or (λ from. option_map_or (nat_lt from) n.end true) period.from true && option_map_or (nat_le n.start) period.to true
