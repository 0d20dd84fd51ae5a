-- The number of verdicts, and how great their measures can be.
use Rattle.std.proofs.Common.{◌≡◌, ℕ, ◌+◌, ◌<◌, ◌≤◌, Bool, true, false, cond, ◌&&◌, not, List, [], ◌∷◌, length, map, take, filter, get_or, refl, sym, ap, subst, ◌∙◌, arith, sum_by, IsPermutation}
use Rattle.std.specs.List.{All, enumerate_from}
use Rattle.std.proofs.lemmas.List.{get_or-map, length-map, length-take, length-take-le}
use Rattle.std.proofs.lemmas.List.FromFn.{length-enumerate_from}
use Rattle.std.proofs.lemmas.List.Sorted.{sum_by-IsPermutation}
use Rattle.std.proofs.lemmas.List.Sums.{length-filter, count_by-le-length, sum_by-cons}
use Rattle.std.proofs.lemmas.List.Elements.{All-map, All-same, All-weaker}
use Rattle.mds_geometry.specs.declared.position.Position.{Position}
use Rattle.mds_policy.specs.Policy.{Rule, Policy}
use Rattle.mds_match.specs.declared.local.Local.{Local}
use Rattle.mds_match.specs.Matching.{is_evaluated, is_open, is_rule, first}
use Rattle.mds_match.specs.Row.{Row}
use Rattle.mds_verdict.specs.Gathered.{gathered_rule, gathered}
use Rattle.mds_verdict.specs.Verdict.{Verdict, adds, measured, listed, judged, verdict_document, verdicts_by, verdicts}
use Rattle.mds_verdict.specs.declared.verdict.RuleVerdict.{RuleVerdict}
use Rattle.mds_verdict.specs.declared.verdict.TheConstants.{MOST_DEVICES}
use Rattle.mds_verdict.specs.declared.verdict.Status.{Status}
use Rattle.mds_verdict.specs.declared.verdict.Status.TheVariants.{NotEvaluated, Inactive, Ok, Violated}
use Rattle.mds_verdict.proofs.Numbered.{map-map, numbered_same}

measured_at_most : (policy : Policy) (n : ℕ) (rule : Rule) (polygons : List ℕ → List (List (List Position))) (rows : List Row) (local : Local) (t : ℕ)
    → length (measured policy n rule polygons rows local t) ≤ length rows
measured_at_most policy n rule polygons rows local t =
    let by_rule : Row → Bool = λ row. is_rule n (first policy polygons row local) in
    let adding = adds rule.kind rule.bounds t in
    omega (arith, length-filter adding (filter by_rule rows), count_by-le-length adding (filter by_rule rows), length-filter by_rule rows, count_by-le-length by_rule rows)

at_most : (b c : Bool) (x y z : Verdict) (k : ℕ) → x.measure ≤ k → y.measure ≤ k → z.measure ≤ k → (cond b x (cond c y z)).measure ≤ k
at_most true c x y z k p q r = p
at_most false true x y z k p q r = q
at_most false false x y z k p q r = r

judged_at_most : (rule : Rule) (local : Local) (k : ℕ) (rows : List Row) → (judged rule local k rows).measure ≤ k
judged_at_most rule local k rows = at_most (not (is_evaluated rule.kind)) (not (is_open rule.window local)) _ _ _ k (omega arith) (omega arith) (omega arith)

at_most_through : (a b c : ℕ) → a ≤ b → b ≤ c → a ≤ c
at_most_through a b c p q = omega arith

-- no measure is greater than the number of vehicles that are counted
pub verdicts_at_most : (policy : Policy) (polygons : List ℕ → List (List (List Position))) (counted named : List Row) (local : Local) (t : ℕ)
    → All (λ v. v.measure ≤ length counted) (verdicts_by policy polygons counted named local t)
verdicts_at_most policy polygons counted named local t =
    All-map (λ v. v.measure ≤ length counted) (λ e. judged e.1 local (length (measured policy e.0 e.1 polygons counted local t)) (measured policy e.0 e.1 polygons named local t)) (enumerate_from 0 policy.rules)
    (λ k d within. let e = get_or (enumerate_from 0 policy.rules) k d in
    at_most_through _ _ _ (judged_at_most e.1 local (length (measured policy e.0 e.1 polygons counted local t)) _) (measured_at_most policy e.0 e.1 polygons counted local t))

-- one verdict for each rule
pub length-verdicts : (policy : Policy) (polygons : List ℕ → List (List (List Position))) (counted named : List Row) (local : Local) (t : ℕ)
    → length (verdicts_by policy polygons counted named local t) ≡ length policy.rules
length-verdicts policy polygons counted named local t =
    length-map (enumerate_from 0 policy.rules) (λ e. judged e.1 local (length (measured policy e.0 e.1 polygons counted local t)) (measured policy e.0 e.1 polygons named local t)) ∙ length-enumerate_from 0 policy.rules

numbered_alike : {X V : Type 0} (f : X → V) (n : ℕ) (xs : List X) → map (λ e. f e.1) (enumerate_from n xs) ≡ map f xs
numbered_alike f n [] = refl
numbered_alike f n (x ∷ xs) = ap (λ vs. f x ∷ vs) (numbered_alike f (n + 1) xs)

-- the result of counting no vehicle
pub gathered_of_none : {X : Type 0} (document : X → Rule) (xs : List X) (policy : Policy) (polygons : List ℕ → List (List (List Position))) (local : Local) (t : ℕ) (found : List Verdict)
    → map document xs ≡ policy.rules → found ≡ map (λ x. gathered_rule (document x) local []) xs → found ≡ gathered policy polygons [] local t
gathered_of_none document xs policy polygons local t found same is =
    is ∙ sym (map-map (λ rule. gathered_rule rule local []) document xs) ∙ ap (map (λ rule. gathered_rule rule local [])) same ∙ sym (numbered_alike (λ rule. gathered_rule rule local []) 0 policy.rules)

gathered_rule_at_most : (rule : Rule) (local : Local) (rows : List Row) → (gathered_rule rule local rows).measure ≤ length rows
gathered_rule_at_most rule local rows = at_most (not (is_evaluated rule.kind)) (not (is_open rule.window local)) _ _ _ (length rows) (omega arith) (omega arith) (omega arith)

-- no measure is greater than the number of vehicles, in the result of counting
pub gathered_at_most : (policy : Policy) (polygons : List ℕ → List (List (List Position))) (rows : List Row) (local : Local) (t : ℕ)
    → All (λ v. v.measure ≤ length rows) (gathered policy polygons rows local t)
gathered_at_most policy polygons rows local t =
    All-map (λ v. v.measure ≤ length rows) (λ e. gathered_rule e.1 local (measured policy e.0 e.1 polygons rows local t)) (enumerate_from 0 policy.rules)
    (λ k d within. let e = get_or (enumerate_from 0 policy.rules) k d in
    at_most_through _ _ _ (gathered_rule_at_most e.1 local (measured policy e.0 e.1 polygons rows local t)) (measured_at_most policy e.0 e.1 polygons rows local t))

-- there are as many verdicts as rules
pub length_held : (policy : Policy) (polygons : List ℕ → List (List (List Position))) (rows : List Row) (local : Local) (t : ℕ) (held : List RuleVerdict)
    → map verdict_document held ≡ gathered policy polygons rows local t → length held ≡ length policy.rules
length_held policy polygons rows local t held is =
    sym (length-map held verdict_document) ∙ ap length is
    ∙ length-map (enumerate_from 0 policy.rules) (λ e. gathered_rule e.1 local (measured policy e.0 e.1 polygons rows local t)) ∙ length-enumerate_from 0 policy.rules

-- measures that fit
pub measures_fit : (found : List Verdict) (n most : ℕ) (held : List RuleVerdict) → map verdict_document held ≡ found → All (λ v. v.measure ≤ n) found → n < most → All (λ v. v.measure < most) held
measures_fit found n most held is bounded few = λ k d within.
    let there : All (λ v. v.measure < most) (map verdict_document held) =
    All-same (λ v. v.measure < most) _ found is (All-weaker (λ v. v.measure ≤ n) (λ v. v.measure < most) (λ v h. omega arith) found bounded) in
    subst (λ (v : Verdict). v.measure < most) (get_or-map verdict_document held k d (verdict_document d) within)
    (there k (verdict_document d) (rw (length-map held verdict_document) within))

-- measures of the first vehicles of a list
pub measures_fit_so_far : {X : Type 0} (row : X → Row) (xs : List X) (n : ℕ) (policy : Policy) (polygons : List ℕ → List (List (List Position))) (local : Local) (t most : ℕ) (held : List RuleVerdict)
    → map verdict_document held ≡ gathered policy polygons (map row (take n xs)) local t → n ≤ length xs → length xs < most → All (λ v. v.measure < most) held
measures_fit_so_far row xs n policy polygons local t most held is within few =
    measures_fit (gathered policy polygons (map row (take n xs)) local t) (length (map row (take n xs))) most held is (gathered_at_most policy polygons (map row (take n xs)) local t)
    (omega (arith, length-map (take n xs) row, length-take-le n xs within))

-- 1 where a test holds
abbrev one_if : Bool → ℕ
one_if b = cond b 1 0

cond_length : {X : Type 0} (b : Bool) (x : X) (xs : List X) → length (cond b (x ∷ xs) xs) ≡ one_if b + length xs
cond_length true x xs = omega arith
cond_length false x xs = omega arith

filters_cons : {X : Type 0} (p : X → Bool) (b : Bool) (x : X) (xs : List X) → length (filter p (cond b (x ∷ xs) xs)) ≡ one_if (b && p x) + length (filter p xs)
filters_cons p true x xs = cond_length (p x) x (filter p xs)
filters_cons p false x xs = omega arith

filters_together : {X : Type 0} (p q : X → Bool) (xs : List X) → length (filter p (filter q xs)) ≡ sum_by (λ x. one_if (q x && p x)) xs
filters_together p q [] = refl
filters_together p q (x ∷ xs) =
    omega (arith, sum_by-cons (λ y. one_if (q y && p y)) x xs, filters_cons p (q x) x (filter q xs), filters_together p q xs)

measured-IsPermutation : (policy : Policy) (n : ℕ) (rule : Rule) (polygons : List ℕ → List (List (List Position))) (rows others : List Row) (local : Local) (t : ℕ)
    → IsPermutation rows others → length (measured policy n rule polygons rows local t) ≡ length (measured policy n rule polygons others local t)
measured-IsPermutation policy n rule polygons rows others local t same =
    let adding = adds rule.kind rule.bounds t in
    let by_rule : Row → Bool = λ row. is_rule n (first policy polygons row local) in
    filters_together adding by_rule rows ∙ sym (sum_by-IsPermutation (λ row. one_if (by_rule row && adding row)) rows others same) ∙ sym (filters_together adding by_rule others)

-- a verdict without its devices
abbrev outcome : Verdict → Status × ℕ
outcome v = (v.status, v.measure)

same_outcome : (b c : Bool) (x y z w : Verdict) → outcome z ≡ outcome w → outcome (cond b x (cond c y z)) ≡ outcome (cond b x (cond c y w))
same_outcome true c x y z w same = refl
same_outcome false true x y z w same = refl
same_outcome false false x y z w same = same

judged_outcome : (rule : Rule) (local : Local) (m : ℕ) (rows others : List Row) → outcome (judged rule local m rows) ≡ outcome (judged rule local m others)
judged_outcome rule local m rows others = same_outcome (not (is_evaluated rule.kind)) (not (is_open rule.window local)) _ _ _ _ refl

-- the vehicles in another order have the same outcomes
pub outcomes-IsPermutation : (policy : Policy) (polygons : List ℕ → List (List (List Position))) (rows others : List Row) (local : Local) (t : ℕ)
    → IsPermutation rows others → map outcome (verdicts policy polygons rows local t) ≡ map outcome (verdicts policy polygons others local t)
outcomes-IsPermutation policy polygons rows others local t same =
    let of : List Row → ℕ → Rule → Verdict = λ rs k rule. judged rule local (length (measured policy k rule polygons rs local t)) (measured policy k rule polygons rs local t) in
    map-map outcome (λ e. of rows e.0 e.1) (enumerate_from 0 policy.rules)
    ∙ numbered_same (λ k rule. outcome (of others k rule)) (λ k rule. outcome (of rows k rule)) 0 policy.rules
    (λ k rule low.
    judged_outcome rule local (length (measured policy k rule polygons rows local t)) (measured policy k rule polygons rows local t) (measured policy k rule polygons others local t)
    ∙ ap (λ m. outcome (judged rule local m (measured policy k rule polygons others local t))) (measured-IsPermutation policy k rule polygons rows others local t same))
    ∙ sym (map-map outcome (λ e. of others e.0 e.1) (enumerate_from 0 policy.rules))

few_listed : (status : Status) (rows : List Row) → length (listed status rows) ≤ MOST_DEVICES
few_listed NotEvaluated rows = omega arith
few_listed Inactive rows = omega arith
few_listed Ok rows = omega arith
few_listed Violated rows = omega (arith, length-take MOST_DEVICES (map (λ (r : Row). r.device) rows))

few_of : (b c : Bool) (x y z : Verdict) (k : ℕ) → length x.devices ≤ k → length y.devices ≤ k → length z.devices ≤ k → length (cond b x (cond c y z)).devices ≤ k
few_of true c x y z k p q r = p
few_of false true x y z k p q r = q
few_of false false x y z k p q r = r

-- no verdict lists more devices than `MOST_DEVICES`
pub few_devices : (policy : Policy) (polygons : List ℕ → List (List (List Position))) (rows : List Row) (local : Local) (t : ℕ)
    → All (λ v. length v.devices ≤ MOST_DEVICES) (verdicts policy polygons rows local t)
few_devices policy polygons rows local t =
    All-map (λ v. length v.devices ≤ MOST_DEVICES) (λ e. judged e.1 local (length (measured policy e.0 e.1 polygons rows local t)) (measured policy e.0 e.1 polygons rows local t)) (enumerate_from 0 policy.rules)
    (λ k d within. let e = get_or (enumerate_from 0 policy.rules) k d in
    few_of (not (is_evaluated e.1.kind)) (not (is_open e.1.window local)) _ _ _ MOST_DEVICES (omega arith) (omega arith) (few_listed _ _))
