-- What a report calls a policy and a rule of it, and the rule's bounds with their unit: by the policy's document (MDS 2.0
-- Policy).
use Rattle.std.specs.Prelude.{ℕ, List, [], map, find, slice_get, bytes_eq, codes, unwrap_or, Option, None, option_and_then, option_map}
use Rattle.std.specs.Option.{option_map_or}
use Rattle.mds_text.specs.Tree.{Json}
use Rattle.mds_text.specs.View.{view}
use Rattle.mds_policy.specs.Policy.{Policy, Rule, policy_document, rule_document}
use Rattle.mds_catalog.specs.Publication.{Publication, published_policies}
use Rattle.cli_documents.specs.Members.{list_named, text_named}
use Rattle.cli_report.specs.declared.names.PolicyTree as program
use Rattle.cli_report.specs.declared.names.RuleLabel as program'

-- the published policies, in the order of publication
abbrev pub policies_in : List Publication → List Policy
policies_in publications = map (λ p. p.document) (published_policies publications)

-- a document's member `name`, where it is a text
abbrev pub name_in : Json → List ℕ
name_in document = unwrap_or (text_named (codes "name") document) []

-- the document of the rule with this number, counted from 0
abbrev pub rule_in : Json → ℕ → Option Json
rule_in document number = option_and_then (λ rules. slice_get rules number) (list_named (codes "rules") document)

-- a rule's member `rule_units`, where it is a text
abbrev pub units_in : Json → List ℕ
units_in document = unwrap_or (text_named (codes "rule_units") document) []

-- the names of a policy and of a rule, the rule, and what its document says of its unit
pub record Label : Type 0 where
  pub policy : List ℕ
  pub name : List ℕ
  pub units : List ℕ
  pub rule : Option Rule

abbrev pub label_in : Policy → ℕ → Label
label_in p number =
    record {
      policy = name_in p.tree;
      name = option_map_or name_in (rule_in p.tree number) [];
      units = option_map_or units_in (rule_in p.tree number) [];
      rule = slice_get p.rules number;
    }

-- of the policy with this identifier; no names where there is none
abbrev pub label_of : List Policy → List ℕ → ℕ → Label
label_of policies id number =
    option_map_or (λ p. label_in p number) (find (λ p. bytes_eq p.id id) policies) (record { policy = []; name = []; units = []; rule = None })

-- the policy of a `PolicyTree` of the program
abbrev pub tree_policy : program.PolicyTree → Policy
tree_policy t =
    let p = policy_document t.policy.now in
    record { tree = view t.tree; id = p.id; start = p.start; end = p.end; providers = p.providers; previous = p.previous; rules = p.rules }

-- the label of a `RuleLabel` of the program
abbrev pub label_view : program'.RuleLabel → Label
label_view l =
    record { policy = l.policy.now; name = l.name.now; units = l.units.now; rule = option_map (λ r. rule_document r.now) l.rule }
