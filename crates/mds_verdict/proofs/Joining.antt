-- The result of counting some vehicles, joined with that of later ones.
use Rattle.std.proofs.Common.{◌≡◌, ℕ, zero, suc, ◌+◌, ◌-◌, ◌<◌, ◌≤◌, Bool, true, false, cond, not, nat_lt, List, [], ◌∷◌, ◌++◌, length, map, take, filter, get_or, refl, sym, ap, ◌∙◌, arith, length-append}
use Rattle.std.proofs.lemmas.Bool.Decides.{nat_tests}
use Rattle.std.specs.List.{enumerate_from}
use Rattle.std.proofs.lemmas.List.{append-nil, get_or_default, get_or-map, length-map, map-append, nil_from_length, take-take}
use Rattle.std.proofs.lemmas.List.Elements.{filter-append}
use Rattle.std.proofs.lemmas.List.FromFn.{length-enumerate_from}
use Rattle.mds_geometry.specs.declared.position.Position.{Position}
use Rattle.mds_policy.specs.Policy.{Rule, Policy, rule_document}
use Rattle.mds_policy.specs.declared.rule.Rule as program
use Rattle.mds_match.specs.declared.local.Local.{Local}
use Rattle.mds_match.specs.Matching.{is_evaluated, is_open, is_rule, first}
use Rattle.mds_match.specs.Row.{Row}
use Rattle.mds_verdict.specs.Gathered.{gathered_rule, gathered, joined_rule, IsJoined}
use Rattle.mds_verdict.specs.Verdict.{Verdict, adds, measured, status_of, verdict_document}
use Rattle.mds_verdict.specs.declared.verdict.RuleVerdict.{RuleVerdict}
use Rattle.mds_verdict.specs.declared.verdict.Status.TheVariants.{NotEvaluated, Inactive}
use Rattle.mds_verdict.specs.declared.verdict.TheConstants.{MOST_DEVICES}
use Rattle.mds_verdict.proofs.Counting.{get_or-values}
use Rattle.mds_verdict.proofs.Measures.{length_held}
use Rattle.mds_verdict.proofs.Numbered.{by_places}

-- the first elements of two lists, concatenated
taken_on : {X : Type 0} (n : ℕ) (xs ys : List X) → take n (xs ++ ys) ≡ take n xs ++ take (n - length (take n xs)) ys
taken_on zero xs ys =
    let none : zero - length (take zero xs) ≡ zero = omega arith in
    ap (λ k. take k ys) (sym none)
taken_on (suc n) [] ys =
    let all : suc n - 0 ≡ suc n = omega arith in
    ap (λ k. take k ys) (sym all)
taken_on (suc n) (x ∷ xs) ys =
    let left : suc n - length (x ∷ take n xs) ≡ n - length (take n xs) = omega arith in
    ap (λ zs. x ∷ zs) (taken_on n xs ys) ∙ ap (λ k. x ∷ (take n xs ++ take k ys)) (sym left)

-- the same by the first elements of each
taken_joined : {X : Type 0} (n : ℕ) (xs ys : List X) → take n xs ++ take (n - length (take n xs)) (take n ys) ≡ take n (xs ++ ys)
taken_joined n xs ys =
    ap (λ zs. take n xs ++ zs) (take-take (n - length (take n xs)) n ys (omega arith)) ∙ sym (taken_on n xs ys)

-- the result of these rows for a rule that is evaluated and open
abbrev opened : Rule → List Row → Verdict
opened rule rows = record { rule = rule.id; status = status_of rule.kind rule.bounds (length rows); measure = length rows; devices = take MOST_DEVICES (map (λ (row : Row). row.device) rows) }

-- the same, by a measure and a list of devices
abbrev made : Rule → ℕ → List (List ℕ) → Verdict
made rule n devices = record { rule = rule.id; status = status_of rule.kind rule.bounds n; measure = n; devices = devices }

opened_joined : (rule : Rule) (xs ys : List Row) → joined_rule rule (opened rule xs) (opened rule ys) ≡ opened rule (xs ++ ys)
opened_joined rule xs ys = by (nat_lt 0 (length ys)) refl
  where
    by : (b : Bool) → nat_lt 0 (length ys) ≡ b
        → cond b (made rule (length xs + length ys) (take MOST_DEVICES (map (λ (row : Row). row.device) xs) ++ take (MOST_DEVICES - length (take MOST_DEVICES (map (λ (row : Row). row.device) xs))) (take MOST_DEVICES (map (λ (row : Row). row.device) ys)))) (opened rule xs) ≡ opened rule (xs ++ ys)
    by true some =
        ap (made rule (length xs + length ys)) (taken_joined MOST_DEVICES (map (λ (row : Row). row.device) xs) (map (λ (row : Row). row.device) ys) ∙ ap (take MOST_DEVICES) (sym (map-append (λ (row : Row). row.device) xs ys)))
        ∙ ap (λ n. made rule n (take MOST_DEVICES (map (λ (row : Row). row.device) (xs ++ ys)))) (sym (length-append xs ys))
    by false none =
        let empty : length ys ≡ 0 = grind (arith, nat_tests) in
        ap (opened rule) (sym (append-nil xs) ∙ ap (λ zs. xs ++ zs) (sym (nil_from_length ys empty)))

-- for a rule that may or may not be evaluated and open
joined_if : (rule : Rule) (b c : Bool) (xs ys : List Row)
    → joined_rule rule
    (cond (not b) (record { rule = rule.id; status = NotEvaluated; measure = 0; devices = [] }) (cond (not c) (record { rule = rule.id; status = Inactive; measure = 0; devices = [] }) (opened rule xs)))
    (cond (not b) (record { rule = rule.id; status = NotEvaluated; measure = 0; devices = [] }) (cond (not c) (record { rule = rule.id; status = Inactive; measure = 0; devices = [] }) (opened rule ys)))
    ≡ cond (not b) (record { rule = rule.id; status = NotEvaluated; measure = 0; devices = [] }) (cond (not c) (record { rule = rule.id; status = Inactive; measure = 0; devices = [] }) (opened rule (xs ++ ys)))
joined_if rule false c xs ys = refl
joined_if rule true false xs ys = refl
joined_if rule true true xs ys = opened_joined rule xs ys

-- for one rule
gathered_together : (rule : Rule) (local : Local) (xs ys : List Row) → joined_rule rule (gathered_rule rule local xs) (gathered_rule rule local ys) ≡ gathered_rule rule local (xs ++ ys)
gathered_together rule local xs ys = joined_if rule (is_evaluated rule.kind) (is_open rule.window local) xs ys

-- the rows that a rule counts, among some rows and others after them
measured_together : (policy : Policy) (n : ℕ) (rule : Rule) (polygons : List ℕ → List (List (List Position))) (xs ys : List Row) (local : Local) (t : ℕ)
    → measured policy n rule polygons (xs ++ ys) local t ≡ measured policy n rule polygons xs local t ++ measured policy n rule polygons ys local t
measured_together policy n rule polygons xs ys local t =
    let adding = adds rule.kind rule.bounds t in
    let caught : Row → Bool = λ row. is_rule n (first policy polygons row local) in
    ap (filter adding) (filter-append caught xs ys) ∙ filter-append adding (filter caught xs) (filter caught ys)

an_element : {X : Type 0} (xs : List X) → 0 < length xs → X
an_element [] none = absurd (omega arith)
an_element (x ∷ xs) some = x

module _ (policy : Policy) (polygons : List ℕ → List (List (List Position))) (local : Local) (t : ℕ) where
  -- the result for the rule at this index
  at_rule : (rows : List Row) (held : List RuleVerdict) (k : ℕ) (v : RuleVerdict) (rule : Rule) → map verdict_document held ≡ gathered policy polygons rows local t → k < length policy.rules
      → verdict_document (get_or held k v) ≡ gathered_rule (get_or policy.rules k rule) local (measured policy k (get_or policy.rules k rule) polygons rows local t)
  at_rule rows held k v rule is within =
      let here = get_or policy.rules k rule in
      let long = length_held policy polygons rows local t held is in
      sym (get_or-map verdict_document held k v (verdict_document v) (omega (arith, long)))
      ∙ ap (λ vs. get_or vs k (verdict_document v)) is
      ∙ get_or-values policy polygons rows local t (λ n r rs. gathered_rule r local rs) k here (verdict_document v) within (get_or_default policy.rules k here rule within)

  length-gathered : (rows : List Row) → length (gathered policy polygons rows local t) ≡ length policy.rules
  length-gathered rows =
      length-map (enumerate_from 0 policy.rules) (λ e. gathered_rule e.1 local (measured policy e.0 e.1 polygons rows local t)) ∙ length-enumerate_from 0 policy.rules

  -- the results of some rows and of others, joined, are those of all rows
  pub gathered_joined : (xs ys : List Row) (rules : List program.Rule) (held later joined : List RuleVerdict) → map rule_document rules ≡ policy.rules
      → map verdict_document held ≡ gathered policy polygons xs local t → map verdict_document later ≡ gathered policy polygons ys local t
      → IsJoined rules held later joined → map verdict_document joined ≡ gathered policy polygons (xs ++ ys) local t
  gathered_joined xs ys rules held later joined same first_is later_is together =
      let long = length_held policy polygons xs local t held first_is in
      let rules_long : length rules ≡ length policy.rules = sym (length-map rules rule_document) ∙ ap length same in
      by_places verdict_document joined (gathered policy polygons (xs ++ ys) local t) (omega (arith, together.0, long, length-gathered (xs ++ ys)))
      (λ k v d low.
      let within : k < length policy.rules = omega (arith, together.0, long) in
      let r = an_element rules (omega (arith, rules_long)) in
      let here = get_or policy.rules k (rule_document r) in
      let rule_is : rule_document (get_or rules k r) ≡ here =
      sym (get_or-map rule_document rules k r (rule_document r) (omega (arith, rules_long))) ∙ ap (λ rs. get_or rs k (rule_document r)) same in
      let held_is = at_rule xs held k v (rule_document r) first_is within in
      let more_is = at_rule ys later k v (rule_document r) later_is within in
      together.1 k r v (omega (arith, together.0))
      ∙ (λ i. joined_rule (rule_is i) (held_is i) (more_is i))
      ∙ gathered_together here local (measured policy k here polygons xs local t) (measured policy k here polygons ys local t)
      ∙ ap (gathered_rule here local) (sym (measured_together policy k here polygons xs ys local t))
      ∙ sym (get_or-values policy polygons (xs ++ ys) local t (λ n rule rs. gathered_rule rule local rs) k here d within (get_or_default policy.rules k here (rule_document r) within)))
