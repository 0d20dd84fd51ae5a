-- What the text of a policy is read as: the document, or the first line of the tables that isn't
-- met (MDS 2.0 Policy, policies and rules).
use Rattle.std.specs.Prelude.{ℕ, ◌+◌, ◌*◌, List, [], ◌∷◌, Bool, true, ◌&&◌, ◌==◌, nat_le, slice_index, if◌then◌else◌, Option, Some, None, Result, Ok, Err, length, map, replicate, bytes_eq, codes, unwrap_or}
use Rattle.std.specs.List.{list_any}
use Rattle.mds_text.specs.Tree.{Json, null, list, object, Members, no_members, member, entries}
use Rattle.mds_text.specs.Fault.{Fault, bad_field, decimal, too_many_rules, ◌>>=◌}
use Rattle.mds_text.specs.Numbers.{two_digits}
use Rattle.mds_text.specs.Quoting.{quoted_count}
use Rattle.mds_text.specs.Reading.{read_text}
use Rattle.mds_text.specs.Vocabulary.{as_token}
use Rattle.mds_text.specs.Fields.{optional_at, required_at, id_of, text_of, token_of, moment_of, bound_of, bool_of, list_of, each, list_each, object_of, or_empty, or_bad, document_of}
use Rattle.mds_text.specs.declared.field.Field.{Field}
use Rattle.mds_text.specs.declared.field.Field.TheVariants.{Rules, RuleId, RuleType, Name, Description, Geographies, States as StatesField, VehicleTypes, PropulsionTypes, Minimum, Maximum, InclusiveMinimum, InclusiveMaximum, RuleUnits, StartTime, EndTime, Days, PolicyId, StartDate, EndDate, ProviderIds, PrevPolicies}
use Rattle.mds_policy.specs.Policy.{States, Rule, Policy}
use Rattle.mds_policy.specs.declared.rule.Kind.{Kind}
use Rattle.mds_policy.specs.declared.rule.Kind.TheVariants.{Count, Time, Other}
use Rattle.mds_policy.specs.declared.rule.TimeUnit.TheVariants.{Seconds, Minutes, Hours, Days as DaysUnit}
use Rattle.mds_policy.specs.declared.rule.Bounds.{Bounds}
use Rattle.mds_policy.specs.declared.rule.Window.{Window}

-- an optional list; an absent one is read as the empty one
abbrev pub optional_list : {A : Type 0} → (Field → Json → Result (List A) Fault) → Json → Field → Result (List A) Fault
optional_list read document field = optional_at read document field >>= λ found. Ok (or_empty found)

-- the kind of a time rule: it is evaluated in one of four units, and not in others
abbrev pub time_kind : Option (List ℕ) → Kind
time_kind None = Other
time_kind (Some unit) =
    if bytes_eq unit (codes "seconds") then Time Seconds
    else if bytes_eq unit (codes "minutes") then Time Minutes
    else if bytes_eq unit (codes "hours") then Time Hours
    else if bytes_eq unit (codes "days") then Time DaysUnit
    else Other

-- what a rule of this type and in these units limits
abbrev pub kind_of : List ℕ → Option (List ℕ) → Kind
kind_of rule_type units =
    if bytes_eq rule_type (codes "count") then Count
    else if bytes_eq rule_type (codes "time") then time_kind units
    else Other

-- the event types of a state: null is read as the empty list
abbrev pub events_of : Json → Result (List (List ℕ)) Fault
events_of null = Ok []
events_of (list ts) = each (token_of StatesField) (entries ts)
events_of value = Err (bad_field StatesField)

-- the entries of a state's event types: null has none, and what is no list either is a bad field
abbrev pub event_entries : Json → Result (List Json) Fault
event_entries null = Ok []
event_entries value = list_of StatesField value

-- a state with its event types
abbrev pub state_of : List ℕ → Json → Result States Fault
state_of name value = do
  state ← or_bad StatesField (as_token name)
  events ← events_of value
  Ok (record { state = state; events = events })

-- the states of an object's members, which are in the byte order of their names
abbrev pub states_of : Members → Result (List States) Fault
states_of no_members = Ok []
states_of (member name value rest) = do
  state ← state_of name value
  states ← states_of rest
  Ok (state ∷ states)

abbrev pub states_member : Field → Json → Result (List States) Fault
states_member field (object ms) = states_of ms
states_member field value = Err (bad_field field)

-- the second of the day of an hour, a minute and a second, where there are all three
abbrev pub second_of_day : Option ℕ → Option ℕ → Option ℕ → Option ℕ
second_of_day (Some h) (Some m) (Some s) = Some (3600 * h + 60 * m + s)
second_of_day hour minute second = None

-- two digits of a text, at this index, as a number up to a limit
abbrev pub digits_at : ℕ → List ℕ → ℕ → Option ℕ
digits_at most s place = two_digits most (slice_index s place) (slice_index s (place + 1))

-- `hh:mm` for `hh:mm:00`, or `hh:mm:ss`, as a second of the day
abbrev pub time_of_day : List ℕ → Option ℕ
time_of_day s =
    if (length s == 5) && (slice_index s 2 == 58) then second_of_day (digits_at 23 s 0) (digits_at 59 s 3) (Some 0)
    else if (length s == 8) && (slice_index s 2 == 58) && (slice_index s 5 == 58) then second_of_day (digits_at 23 s 0) (digits_at 59 s 3) (digits_at 59 s 6)
    else None

abbrev pub time_of : Field → Json → Result ℕ Fault
time_of field value = text_of field value >>= λ s. or_bad field (time_of_day s)

-- a day of the week by its name, counted from Sunday on
abbrev pub weekday_of : List ℕ → Option ℕ
weekday_of name =
    if bytes_eq name (codes "sun") then Some 0
    else if bytes_eq name (codes "mon") then Some 1
    else if bytes_eq name (codes "tue") then Some 2
    else if bytes_eq name (codes "wed") then Some 3
    else if bytes_eq name (codes "thu") then Some 4
    else if bytes_eq name (codes "fri") then Some 5
    else if bytes_eq name (codes "sat") then Some 6
    else None

abbrev pub day_of : Field → Json → Result ℕ Fault
day_of field value = text_of field value >>= λ s. or_bad field (weekday_of s)

-- whether each weekday is listed; no day listed means all
abbrev pub days_listed : List ℕ → List Bool
days_listed [] = replicate 7 true
days_listed (day ∷ days) = map (λ weekday. list_any (λ d. d == weekday) (day ∷ days)) (0 ∷ 1 ∷ 2 ∷ 3 ∷ 4 ∷ 5 ∷ 6 ∷ [])

-- a list of rules has at most 64 entries
abbrev pub most_rules : ℕ
most_rules = 64

abbrev pub few_rules : List Json → Result (List Json) Fault
few_rules entries = if nat_le (length entries) most_rules then Ok entries else Err too_many_rules

-- the last second of a day
abbrev pub last_second : ℕ
last_second = 86399

unfoldable pub window_of : Json → Result Window Fault
window_of rule = do
  start ← optional_at time_of rule StartTime
  end ← optional_at time_of rule EndTime
  days ← optional_list (list_each day_of) rule Days
  Ok (record { start = unwrap_or start 0; end = unwrap_or end last_second; days = days_listed days })

unfoldable pub bounds_of : Json → Result Bounds Fault
bounds_of rule = do
  minimum ← optional_at bound_of rule Minimum
  maximum ← optional_at bound_of rule Maximum
  inclusive_minimum ← optional_at bool_of rule InclusiveMinimum
  inclusive_maximum ← optional_at bool_of rule InclusiveMaximum
  Ok (record { minimum = minimum; maximum = maximum; inclusive_minimum = unwrap_or inclusive_minimum true; inclusive_maximum = unwrap_or inclusive_maximum true })

-- a rule, in the order of its table
unfoldable pub rule_of : Json → Result Rule Fault
rule_of entry = do
  rule ← object_of Rules entry
  id ← required_at id_of rule RuleId
  name ← required_at text_of rule Name
  rule_type ← required_at token_of rule RuleType
  geographies ← required_at (list_each id_of) rule Geographies
  states ← optional_list states_member rule StatesField
  vehicle_types ← optional_list (list_each token_of) rule VehicleTypes
  propulsion_types ← optional_list (list_each token_of) rule PropulsionTypes
  bounds ← bounds_of rule
  units ← optional_at token_of rule RuleUnits
  window ← window_of rule
  Ok (record {
    id = id;
    kind = kind_of rule_type units;
    geographies = geographies;
    states = states;
    vehicle_types = vehicle_types;
    propulsion_types = propulsion_types;
    bounds = bounds;
    window = window;
  })

-- a policy, in the order of its table
unfoldable pub policy_of : Json → Result Policy Fault
policy_of tree = do
  document ← document_of tree
  id ← required_at id_of document PolicyId
  name ← required_at text_of document Name
  description ← optional_at text_of document Description
  start ← required_at moment_of document StartDate
  end ← optional_at moment_of document EndDate
  providers ← optional_list (list_each id_of) document ProviderIds
  previous ← optional_list (list_each id_of) document PrevPolicies
  entries ← required_at list_of document Rules
  few ← few_rules entries
  rules ← each rule_of few
  Ok (record {
    tree = tree;
    id = id;
    start = start;
    end = end;
    providers = providers;
    previous = previous;
    rules = rules;
  })

-- the document of a text with this many numbers that aren't plain, which must be none
abbrev pub if_plain : ℕ → Json → Result Json Fault
if_plain count tree = if count == 0 then Ok tree else Err decimal

-- what the text of a policy is read as
unfoldable pub read_policy : List ℕ → Result Policy Fault
read_policy bytes = do
  tree ← read_text bytes
  plain ← if_plain (quoted_count bytes) tree
  policy_of plain
