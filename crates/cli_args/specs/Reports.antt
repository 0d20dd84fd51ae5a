-- What `report` asks for.
use Rattle.std.specs.Prelude.{ℕ, ◌==◌, Bool, true, false, ◌&&◌, nat_le, List, [], ◌∷◌, ◌++◌, length, take, drop, map, bytes_eq, codes, is_some, option_to_list, string_bytes, if◌then◌else◌, Option, Some, None}
use Rattle.uuid.specs.Text.{parsed}
use Rattle.cli_args.specs.Options.{value_of, is_new, count_in, leading_count}
use Rattle.cli_args.specs.declared.report.TheConstants.{EVERY, MOST_MINUTES}
use Rattle.cli_args.specs.declared.report.ReportOptions.{ReportOptions}

-- a report: of which journals, by which configuration, from and to which moments as they are given, each so many minutes,
-- of these operators, or of all where there are none, into which folder
pub record Report : Type 0 where
  pub folders : List (List ℕ)
  pub config : List ℕ
  pub from : List ℕ
  pub to : List ℕ
  pub every : ℕ
  pub operators : List (List ℕ)
  pub out : List ℕ

-- options of which each is given once at most
abbrev pub single_options : List (List ℕ)
single_options = codes "--config" ∷ codes "--from" ∷ codes "--to" ∷ codes "--every" ∷ codes "--out" ∷ []

-- one of these, which isn't among the options behind it
unfoldable pub is_single : (word : List ℕ) → (behind : List (List ℕ)) → Bool
is_single word behind = is_new single_options word behind

-- `--operator` with an identifier, as often as one likes, or one of the others
abbrev pub is_option : (word value : List ℕ) → (behind : List (List ℕ)) → Bool
is_option word value behind = if bytes_eq word (codes "--operator") then is_some (parsed value) else is_single word behind

abbrev pub are_options : List (List ℕ) → Bool
are_options (word ∷ value ∷ words) = is_option word value words && are_options words
are_options (word ∷ []) = false
are_options [] = true

-- the identifiers behind each `--operator`
abbrev pub operators_in : List (List ℕ) → List (List ℕ)
operators_in (word ∷ value ∷ words) =
    if bytes_eq word (codes "--operator") then option_to_list (parsed value) ++ operators_in words else operators_in words
operators_in words = []

-- minutes from one moment to the next: one at least, a day at most, and 5 where it isn't said
abbrev pub minutes_of : ℕ → Option ℕ
minutes_of count = if nat_le 1 count && nat_le count MOST_MINUTES then Some count else None

abbrev pub every_with : Option ℕ → Option ℕ
every_with None = None
every_with (Some count) = minutes_of count

abbrev pub every_in : Option (List ℕ) → Option ℕ
every_in None = Some EVERY
every_in (Some word) = every_with (count_in word)

abbrev pub report_with : (folders : List (List ℕ)) → (config from to : Option (List ℕ)) → (every : Option ℕ)
    → (operators : List (List ℕ)) → (out : Option (List ℕ)) → Option Report
report_with folders (Some config) (Some from) (Some to) (Some every) operators (Some out) =
    Some record {
      folders = folders;
      config = config;
      from = from;
      to = to;
      every = every;
      operators = operators;
      out = out;
    }
report_with folders config from to every operators out = None

-- a report of these journals, by options
abbrev pub report_of_all : (folders options : List (List ℕ)) → Option Report
report_of_all folders options =
    if are_options options
    then report_with folders (value_of (codes "--config") options) (value_of (codes "--from") options) (value_of (codes "--to") options)
    (every_in (value_of (codes "--every") options)) (operators_in options) (value_of (codes "--out") options)
    else None

-- the same, where there is a journal
abbrev pub report_by : (folders options : List (List ℕ)) → Option Report
report_by folders options = if length folders == 0 then None else report_of_all folders options

-- what `report` asks for: journals stand before the first option
abbrev pub report_of : List (List ℕ) → Option Report
report_of words = report_by (take (leading_count words) words) (drop (leading_count words) words)

abbrev pub report_view : ReportOptions → Report
report_view r = record {
  folders = map string_bytes r.folders.now;
  config = r.config.now;
  from = r.from.now;
  to = r.to.now;
  every = r.every;
  operators = operators_in (map string_bytes r.options.now);
  out = r.out.now;
}
