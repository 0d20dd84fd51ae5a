-- A policy and its rules (MDS 2.0 Policy, policies and rules), and the documents that the program's types stand for.
use Rattle.std.specs.Prelude.{ℕ, List, map, Option, Result, Ok, Err}
use Rattle.mds_text.specs.Fault.{Fault}
use Rattle.mds_text.specs.Reading.{read_text}
use Rattle.mds_text.specs.Tree.{Json, null}
use Rattle.mds_policy.specs.declared.rule.Kind.{Kind}
use Rattle.mds_policy.specs.declared.rule.Bounds.{Bounds}
use Rattle.mds_policy.specs.declared.rule.Window.{Window}
use Rattle.mds_policy.specs.declared.rule.StateEvents.{StateEvents}
use Rattle.mds_policy.specs.declared.rule.Rule as program
use Rattle.mds_policy.specs.declared.policy.Policy as program'

-- a state, and the event types that a rule is for; an empty list means all
pub record States : Type 0 where
  pub state : List ℕ
  pub events : List (List ℕ)

-- a rule; an empty list of states, vehicle types or propulsion types means all
pub record Rule : Type 0 where
  pub id : List ℕ
  pub kind : Kind
  pub geographies : List (List ℕ)
  pub states : List States
  pub vehicle_types : List (List ℕ)
  pub propulsion_types : List (List ℕ)
  pub bounds : Bounds
  pub window : Window

-- A policy document: the author's whole tree, and what is read of it. The tree determines the rest.
pub record Policy : Type 0 where
  pub tree : Json
  pub id : List ℕ
  pub start : ℕ
  pub end : Option ℕ
  pub providers : List (List ℕ)
  pub previous : List (List ℕ)
  pub rules : List Rule

abbrev pub states_document : StateEvents → States
states_document s = record { state = s.state; events = s.events.items }

abbrev pub rule_document : program.Rule → Rule
rule_document r =
    record {
      id = r.id;
      kind = r.kind;
      geographies = r.geographies.items;
      states = map states_document r.states.items;
      vehicle_types = r.vehicle_types.items;
      propulsion_types = r.propulsion_types.items;
      bounds = r.bounds;
      window = r.window;
    }

-- the value that was read, and null where none was
abbrev pub or_null : Result Json Fault → Json
or_null (Ok tree) = tree
or_null (Err fault) = null

-- the value of a JSON text
unfoldable pub tree_of : List ℕ → Json
tree_of bytes = or_null (read_text bytes)

-- the document of the program's `Policy`
abbrev pub policy_document : program'.Policy → Policy
policy_document p =
    record {
      tree = tree_of p.text.items;
      id = p.id;
      start = p.start;
      end = p.end;
      providers = p.providers.items;
      previous = p.previous.items;
      rules = map rule_document p.rules.items;
    }
