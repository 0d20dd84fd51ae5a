-- A policy that allows one vehicle in one geography, as a text, as a tree and as what is read of it; texts that differ
-- from it; and other rules.
use Rattle.std.specs.Prelude.{ℕ, pos, List, Option, Result, Ok, [], ◌∷◌, ◌++◌, true, false, Some, None, replicate, codes}
use Rattle.mds_text.specs.Tree.{Json, null, int, text, list, object, items_of, members_of}
use Rattle.mds_policy.specs.Policy.{Policy, Rule, States}
use Rattle.mds_policy.specs.declared.rule.Bounds.{Bounds}
use Rattle.mds_policy.specs.declared.rule.Kind.{Kind}
use Rattle.mds_policy.specs.declared.rule.Kind.TheVariants.{Count, Time}
use Rattle.mds_policy.specs.declared.rule.TimeUnit.TheVariants.{Minutes}
use Rattle.mds_policy.specs.Reading.{read_policy}
use Rattle.mds_text.specs.Fault.{Fault, ◌>>=◌}
use Rattle.mds_policy.specs.declared.rule.Window.{Window}
use Rattle.tests_examples_core.specs.Ids.{id, id_text, square_id, wide_id, cap_id, next_id, first_rule_id, second_rule_id}

-- the text of the policy, with more members of its rule
abbrev pub cap_with : List ℕ → List ℕ
cap_with more =
    codes "{\"policy_id\":\"" ++ id_text (codes "201") ++ codes "\",\"name\":\"cap\",\"start_date\":1000,\"rules\":[{\"rule_id\":\""
    ++ id_text (codes "301") ++ codes "\",\"name\":\"cap\",\"rule_type\":\"count\"" ++ more ++ codes "}]}"

abbrev pub in_the_square : List ℕ
in_the_square = codes ",\"geographies\":[\"" ++ id_text (codes "101") ++ codes "\"]"

abbrev pub cap_text : List ℕ
cap_text = cap_with (in_the_square ++ codes ",\"maximum\":1")

abbrev pub cap_rule_tree : Json
cap_rule_tree =
    object (members_of ((codes "geographies", list (items_of (text (id_text (codes "101")) ∷ [])))
    ∷ (codes "maximum", int (pos 1))
    ∷ (codes "name", text (codes "cap"))
    ∷ (codes "rule_id", text (id_text (codes "301")))
    ∷ (codes "rule_type", text (codes "count"))
    ∷ []))

-- the tree of the policy, with its names in byte order
abbrev pub cap_tree : Json
cap_tree =
    object (members_of ((codes "name", text (codes "cap"))
    ∷ (codes "policy_id", text (id_text (codes "201")))
    ∷ (codes "rules", list (items_of (cap_rule_tree ∷ [])))
    ∷ (codes "start_date", int (pos 1000))
    ∷ []))

-- the text as which the policy is served, with more members before its rules
abbrev pub cap_served : List ℕ → List ℕ
cap_served more =
    codes "{\"name\":\"cap\",\"policy_id\":\"" ++ id_text (codes "201") ++ codes "\"," ++ more ++ codes "\"rules\":[{\"geographies\":[\""
    ++ id_text (codes "101") ++ codes "\"],\"maximum\":1,\"name\":\"cap\",\"rule_id\":\"" ++ id_text (codes "301")
    ++ codes "\",\"rule_type\":\"count\"}],\"start_date\":1000}"

-- the text of a policy with every member, and an unknown one, in an order of its own
abbrev pub full_text : List ℕ
full_text =
    codes "{\"rules\":[{\"days\":[\"fri\",\"sun\"],\"end_time\":\"05:00:30\",\"start_time\":\"22:15\",\"rule_units\":\"minutes\",\"inclusive_maximum\":false,\"inclusive_minimum\":true,\"maximum\":72,\"minimum\":3,\"propulsion_types\":[\"electric\",\"human\"],\"vehicle_types\":[\"scooter\"],\"states\":{\"on_trip\":[\"trip_start\",\"trip_end\"],\"available\":null},\"geographies\":[\""
    ++ id_text (codes "102") ++ codes "\",\"" ++ id_text (codes "101") ++ codes "\"],\"rule_type\":\"time\",\"name\":\"n\",\"rule_id\":\"" ++ id_text (codes "302")
    ++ codes "\"}],\"prev_policies\":[\"" ++ id_text (codes "201") ++ codes "\"],\"provider_ids\":[\"" ++ id_text (codes "0b1")
    ++ codes "\",\"" ++ id_text (codes "0a1") ++ codes "\"],\"end_date\":2000,\"start_date\":1000,\"description\":\"d\",\"name\":\"n\",\"policy_id\":\"" ++ id_text (codes "202") ++ codes "\",\"currency\":\"USD\"}"

-- the rule that is read from it
abbrev pub full_rule : Rule
full_rule =
    record {
      id = second_rule_id;
      kind = Time Minutes;
      geographies = wide_id ∷ square_id ∷ [];
      states =
          (record { state = codes "available"; events = [] })
          ∷ (record { state = codes "on_trip"; events = codes "trip_start" ∷ codes "trip_end" ∷ [] })
          ∷ [];
      vehicle_types = codes "scooter" ∷ [];
      propulsion_types = codes "electric" ∷ codes "human" ∷ [];
      bounds = record { minimum = Some 3; maximum = Some 72; inclusive_minimum = true; inclusive_maximum = false };
      window = record { start = 80100; end = 18030; days = true ∷ false ∷ false ∷ false ∷ false ∷ true ∷ false ∷ [] };
    }

-- what is read of a policy, without its tree
abbrev pub Read : Type 0
Read = List ℕ × ℕ × Option ℕ × List (List ℕ) × List (List ℕ) × List Rule

abbrev pub read_of : Policy → Read
read_of p = (p.id, p.start, p.end, p.providers, p.previous, p.rules)

abbrev pub read_without_tree : List ℕ → Result Read Fault
read_without_tree bytes = read_policy bytes >>= λ p. Ok (read_of p)

abbrev pub full_policy : Read
full_policy = (next_id, 1000, Some 2000, id 0 177 ∷ id 0 161 ∷ [], cap_id ∷ [], full_rule ∷ [])

-- at any time, every day
abbrev pub always : Window
always = record { start = 0; end = 86399; days = replicate 7 true }

-- at most so many
abbrev pub at_most : ℕ → Bounds
at_most n = record { minimum = None; maximum = Some n; inclusive_minimum = true; inclusive_maximum = true }

abbrev pub cap_rule : Rule
cap_rule =
    record {
      id = first_rule_id;
      kind = Count;
      geographies = square_id ∷ [];
      states = [];
      vehicle_types = [];
      propulsion_types = [];
      bounds = at_most 1;
      window = always;
    }

abbrev pub cap : Policy
cap =
    record {
      tree = cap_tree;
      id = cap_id;
      start = 1000;
      end = None;
      providers = [];
      previous = [];
      rules = cap_rule ∷ [];
    }

-- a policy with these rules; its tree doesn't matter to what its rules do
abbrev pub with_rules : List Rule → Policy
with_rules rules =
    record {
      tree = null;
      id = cap_id;
      start = 1000;
      end = None;
      providers = [];
      previous = [];
      rules = rules;
    }

-- a rule of this kind that is always open, with these bounds, in one geography
abbrev pub rule : List ℕ → Kind → List ℕ → Bounds → Rule
rule id kind geography bounds =
    record {
      id = id;
      kind = kind;
      geographies = geography ∷ [];
      states = [];
      vehicle_types = [];
      propulsion_types = [];
      bounds = bounds;
      window = always;
    }

-- at most five vehicles in the square, and at most five in the wide area around it
abbrev pub downtown : Rule
downtown = rule first_rule_id Count square_id (at_most 5)

abbrev pub citywide : Rule
citywide = rule second_rule_id Count wide_id (at_most 5)

abbrev pub two_rules : Policy
two_rules = with_rules (downtown ∷ citywide ∷ [])

-- fewer than so many
abbrev pub below : ℕ → Bounds
below n = record { minimum = None; maximum = Some n; inclusive_minimum = true; inclusive_maximum = false }

-- so many at least
abbrev pub at_least : ℕ → Bounds
at_least n = record { minimum = Some n; maximum = None; inclusive_minimum = true; inclusive_maximum = true }

-- more than so many
abbrev pub more_than : ℕ → Bounds
more_than n = record { minimum = Some n; maximum = None; inclusive_minimum = false; inclusive_maximum = true }

-- no bounds
abbrev pub unbounded : Bounds
unbounded = record { minimum = None; maximum = None; inclusive_minimum = true; inclusive_maximum = true }

-- the rule in the square, for vehicles in these states, of these types, and with these types of propulsion
abbrev pub for_states : List States → Rule
for_states states = record downtown { states = states }

abbrev pub for_types : List (List ℕ) → Rule
for_types types = record downtown { vehicle_types = types }

abbrev pub for_propulsion : List (List ℕ) → Rule
for_propulsion types = record downtown { propulsion_types = types }

-- a rule in these geographies
abbrev pub for_geographies : List (List ℕ) → Rule
for_geographies ids = record downtown { geographies = ids }

-- a state with event types
abbrev pub state : List ℕ → List (List ℕ) → States
state name events = record { state = name; events = events }

-- a rule that is open on Sundays alone
abbrev pub on_sundays : Rule → Rule
on_sundays r = record r { window = record { start = 0; end = 86399; days = true ∷ replicate 6 false } }
