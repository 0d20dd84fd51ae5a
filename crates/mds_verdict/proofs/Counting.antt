-- How one more vehicle changes the verdicts.
use Rattle.std.proofs.Common.{◌≡◌, ◌≢◌, ℕ, ◌+◌, ◌<◌, ◌≤◌, Bool, true, false, cond, ◌&&◌, not, nat_lt, Option, Some, None, List, [], ◌∷◌, ◌++◌, length, map, take, filter, get_or, set, refl, sym, ap, subst, ◌∙◌, arith, length-append}
use Rattle.std.proofs.lemmas.Bool.Decides.{nat_tests}
use Rattle.std.specs.List.{enumerate_from, position}
use Rattle.std.specs.Option.{IfSome}
use Rattle.std.proofs.lemmas.List.{take_more as take_one_more, append-nil, set-get_or, get_or-map, length-map, length-take, take_all, take-append-le, map-append}
use Rattle.std.proofs.lemmas.List.Elements.{filter-append}
use Rattle.std.proofs.lemmas.List.Quantifiers.{position-Some}
use Rattle.mds_geometry.specs.declared.position.Position.{Position}
use Rattle.mds_policy.specs.Policy.{Rule, Policy}
use Rattle.mds_match.specs.declared.local.Local.{Local}
use Rattle.mds_match.specs.Matching.{is_evaluated, is_open, is_rule, meets, first}
use Rattle.mds_match.specs.Row.{Row}
use Rattle.mds_verdict.specs.Gathered.{gathered_rule, gathered, shown_devices, shown}
use Rattle.mds_verdict.specs.Verdict.{Verdict, adds, measured, status_of, listed, judged, verdicts}
use Rattle.mds_verdict.specs.declared.verdict.TheConstants.{MOST_DEVICES}
use Rattle.mds_verdict.specs.declared.verdict.Status.{Status}
use Rattle.mds_verdict.specs.declared.verdict.Status.TheVariants.{NotEvaluated, Inactive, Ok, Violated}
use Rattle.mds_verdict.proofs.Numbered.{map-map, numbered, numbered_same, numbered_set, get_or-numbered}

-- a row, where a test holds
abbrev row_if : Bool → Row → List Row
row_if b row = cond b (row ∷ []) []

filtered_if : (p : Row → Bool) (b : Bool) (row : Row) → filter p (cond b (row ∷ []) []) ≡ row_if (b && p row) row
filtered_if p true row = refl
filtered_if p false row = refl

not_there : (b c : Bool) → b ≡ false → (b && c) ≡ false
not_there b c h = rw h refl

not_adding : (b c : Bool) → c ≡ false → (b && c) ≡ false
not_adding true c h = h
not_adding false c h = refl

both_there : (b c : Bool) → b ≡ true → c ≡ true → (b && c) ≡ true
both_there b c p q = rw p q

other_rule : (k n : ℕ) (group : Option ℕ) → group ≡ Some n → k ≢ n → is_rule k group ≡ false
other_rule k n None is apart = cc
other_rule k n (Some m) is apart = let e : m ≡ n = cc in grind (arith, nat_tests)

that_rule : (n : ℕ) (group : Option ℕ) → group ≡ Some n → is_rule n group ≡ true
that_rule n None is = cc
that_rule n (Some m) is = let e : m ≡ n = cc in grind (arith, nat_tests)

no_rule : (k : ℕ) (group : Option ℕ) → group ≡ None → is_rule k group ≡ false
no_rule k None is = refl
no_rule k (Some m) is = cc

-- the values of a policy's rules, each computed from the rows that the rule counts
abbrev pub values : Policy → (List ℕ → List (List (List Position))) → List Row → Local → ℕ → (ℕ → Rule → List Row → Verdict) → List Verdict
values policy polygons rows local t value = numbered (λ k rule. value k rule (measured policy k rule polygons rows local t)) 0 policy.rules

-- the value of the rule at this index
pub get_or-values : (policy : Policy) (polygons : List ℕ → List (List (List Position))) (rows : List Row) (local : Local) (t : ℕ) (value : ℕ → Rule → List Row → Verdict) (n : ℕ) (rule : Rule) (d : Verdict)
    → n < length policy.rules → get_or policy.rules n rule ≡ rule
    → get_or (values policy polygons rows local t value) n d ≡ value n rule (measured policy n rule polygons rows local t)
get_or-values policy polygons rows local t value n rule d within here =
    get_or-numbered (λ k r. value k r (measured policy k r polygons rows local t)) 0 n n policy.rules rule d within (let e : n ≡ 0 + n = omega arith in e)
    ∙ ap (λ r. value n r (measured policy n r polygons rows local t)) here

-- one more row
module _ (policy : Policy) (polygons : List ℕ → List (List (List Position))) (rows : List Row) (row : Row) (local : Local) (t : ℕ) where
  -- a rule counts it where it is the first that the row meets, and the row counts towards its
  -- measure
  measured-append : (n : ℕ) (rule : Rule) → measured policy n rule polygons (rows ++ row ∷ []) local t
      ≡ measured policy n rule polygons rows local t ++ row_if (is_rule n (first policy polygons row local) && adds rule.kind rule.bounds t row) row
  measured-append n rule =
      let adding = adds rule.kind rule.bounds t in
      let caught : Row → Bool = λ r. is_rule n (first policy polygons r local) in
      ap (filter adding) (filter-append caught rows (row ∷ [])) ∙ filter-append adding (filter caught rows) (filter caught (row ∷ []))
      ∙ ap (λ rs. filter adding (filter caught rows) ++ rs) (filtered_if adding (caught row) row)

  measured_same : (n : ℕ) (rule : Rule) → (is_rule n (first policy polygons row local) && adds rule.kind rule.bounds t row) ≡ false
      → measured policy n rule polygons (rows ++ row ∷ []) local t ≡ measured policy n rule polygons rows local t
  measured_same n rule is =
      measured-append n rule ∙ ap (λ b. measured policy n rule polygons rows local t ++ row_if b row) is ∙ append-nil _

  -- a row that no rule catches changes nothing
  pub values-uncaught : (value : ℕ → Rule → List Row → Verdict) → first policy polygons row local ≡ None
      → values policy polygons (rows ++ row ∷ []) local t value ≡ values policy polygons rows local t value
  values-uncaught value none =
      numbered_same (λ k rule. value k rule (measured policy k rule polygons rows local t)) (λ k rule. value k rule (measured policy k rule polygons (rows ++ row ∷ []) local t)) 0 policy.rules
      (λ k rule low. ap (value k rule) (measured_same k rule (not_there (is_rule k (first policy polygons row local)) _ (no_rule k (first policy polygons row local) none))))

  module _ (value : ℕ → Rule → List Row → Verdict) (n : ℕ) (rule : Rule) (caught_by : first policy polygons row local ≡ Some n) (within : n < length policy.rules) (here : get_or policy.rules n rule ≡ rule) where
    -- a row that a rule catches changes no other rule's value
    values_at : values policy polygons (rows ++ row ∷ []) local t value ≡ set (values policy polygons rows local t value) n (value n rule (measured policy n rule polygons (rows ++ row ∷ []) local t))
    values_at =
        numbered_set (λ k r. value k r (measured policy k r polygons rows local t)) (λ k r. value k r (measured policy k r polygons (rows ++ row ∷ []) local t)) 0 n n policy.rules rule within (let e : n ≡ 0 + n = omega arith in e)
        (λ k r apart. ap (value k r) (measured_same k r (not_there (is_rule k (first policy polygons row local)) _ (other_rule k n (first policy polygons row local) caught_by apart))))
        ∙ ap (λ r. set (values policy polygons rows local t value) n (value n r (measured policy n r polygons (rows ++ row ∷ []) local t))) here

    -- a row that a rule catches without counting it changes nothing
    pub values-not_adding : adds rule.kind rule.bounds t row ≡ false → values policy polygons (rows ++ row ∷ []) local t value ≡ values policy polygons rows local t value
    values-not_adding none =
        let old = value n rule (measured policy n rule polygons rows local t) in
        values_at
        ∙ ap (set (values policy polygons rows local t value) n)
        (ap (value n rule) (measured_same n rule (not_adding (is_rule n (first policy polygons row local)) (adds rule.kind rule.bounds t row) none)) ∙ sym (get_or-values policy polygons rows local t value n rule old within here))
        ∙ set-get_or (values policy polygons rows local t value) n old

    -- a row that a rule counts is the last of its rows
    pub values-adding : adds rule.kind rule.bounds t row ≡ true
        → values policy polygons (rows ++ row ∷ []) local t value ≡ set (values policy polygons rows local t value) n (value n rule (measured policy n rule polygons rows local t ++ row ∷ []))
    values-adding adding =
        values_at
        ∙ ap (λ rs. set (values policy polygons rows local t value) n (value n rule rs))
        (measured-append n rule
        ∙ ap (λ b. measured policy n rule polygons rows local t ++ row_if b row) (both_there (is_rule n (first policy polygons row local)) (adds rule.kind rule.bounds t row) (that_rule n (first policy polygons row local) caught_by) adding))

-- the result for an open rule
gathered_open : (rule : Rule) (local : Local) (rows : List Row) → is_evaluated rule.kind ≡ true → is_open rule.window local ≡ true
    → gathered_rule rule local rows ≡ (record { rule = rule.id; status = status_of rule.kind rule.bounds (length rows); measure = length rows; devices = take MOST_DEVICES (map (λ (r : Row). r.device) rows) })
gathered_open rule local rows p q = rw (p, q) refl

first_two : (a b c d e f : Bool) → (a && b && c && d && e && f) ≡ true → (a ≡ true) × (b ≡ true)
first_two true true c d e f h = (refl, refl)
first_two true false c d e f h = cc
first_two false b c d e f h = cc

-- a rule that a row meets is evaluated and open
pub evaluated_and_open : (policy : Policy) (polygons : List ℕ → List (List (List Position))) (row : Row) (local : Local) (n : ℕ) (rule : Rule)
    → first policy polygons row local ≡ Some n → get_or policy.rules n rule ≡ rule
    → (is_evaluated rule.kind ≡ true) × (is_open rule.window local ≡ true)
evaluated_and_open policy polygons row local n rule caught_by here =
    first_two (is_evaluated rule.kind) (is_open rule.window local) _ _ _ _
    (ap (λ r. meets r polygons row local) (sym here) ∙ (position-Some (λ r. meets r polygons row local) policy.rules n rule caught_by).1)

-- a list with room for more, and a full one
take_more : (n : ℕ) (xs : List (List ℕ)) (x : List ℕ) → length (take n xs) < n → take n (xs ++ x ∷ []) ≡ take n xs ++ x ∷ []
take_more n xs x room =
    let short : length xs < n = grind (arith, length-take n xs) in
    take_all n (xs ++ x ∷ []) (omega (arith, length-append xs (x ∷ []))) ∙ ap (λ ys. ys ++ x ∷ []) (sym (take_all n xs (omega arith)))

take_full : (n : ℕ) (xs ys : List (List ℕ)) → n ≤ length (take n xs) → take n (xs ++ ys) ≡ take n xs
take_full n xs ys full =
    take-append-le n xs ys (grind (arith, length-take n xs))

-- a vehicle isn't listed where the list is full
listed_full : (status : Status) (rows : List Row) (row : Row) (devices : List (List ℕ)) → status ≡ Violated → MOST_DEVICES ≤ length devices → devices ≡ listed status rows → devices ≡ listed status (rows ++ row ∷ [])
listed_full status rows row devices violated full is =
    let devices_of : List Row → List (List ℕ) = map (λ (r : Row). r.device) in
    let as_first : devices ≡ take MOST_DEVICES (devices_of rows) = is ∙ ap (λ s. listed s rows) violated in
    as_first ∙ sym (take_full MOST_DEVICES (devices_of rows) (row.device ∷ []) (subst (λ ds. MOST_DEVICES ≤ length ds) as_first full))
    ∙ ap (take MOST_DEVICES) (sym (map-append (λ (r : Row). r.device) rows (row ∷ []))) ∙ ap (λ s. listed s (rows ++ row ∷ [])) (sym violated)

-- a vehicle is listed last where there is room
listed_last : (status : Status) (rows : List Row) (row : Row) (devices : List (List ℕ)) → status ≡ Violated → length devices < MOST_DEVICES → devices ≡ listed status rows → devices ++ row.device ∷ [] ≡ listed status (rows ++ row ∷ [])
listed_last status rows row devices violated room is =
    let devices_of : List Row → List (List ℕ) = map (λ (r : Row). r.device) in
    let as_first : devices ≡ take MOST_DEVICES (devices_of rows) = is ∙ ap (λ s. listed s rows) violated in
    ap (λ ds. ds ++ row.device ∷ []) as_first
    ∙ sym (take_more MOST_DEVICES (devices_of rows) row.device (subst (λ ds. length ds < MOST_DEVICES) as_first room))
    ∙ ap (take MOST_DEVICES) (sym (map-append (λ (r : Row). r.device) rows (row ∷ []))) ∙ ap (λ s. listed s (rows ++ row ∷ [])) (sym violated)

-- one more vehicle, which is listed where there is room
pub listed_next : (status : Status) (rows : List Row) (row : Row) (devices : List (List ℕ)) → status ≡ Violated → devices ≡ listed status rows
    → cond (nat_lt (length devices) MOST_DEVICES) (devices ++ row.device ∷ []) devices ≡ listed status (rows ++ row ∷ [])
listed_next status rows row devices violated is = by (nat_lt (length devices) MOST_DEVICES) refl
  where
    by : (b : Bool) → nat_lt (length devices) MOST_DEVICES ≡ b → cond b (devices ++ row.device ∷ []) devices ≡ listed status (rows ++ row ∷ [])
    by true room = listed_last status rows row devices violated (grind (arith, nat_tests)) is
    by false full = listed_full status rows row devices violated (grind (arith, nat_tests)) is

position_within : {X : Type 0} (p : X → Bool) (xs : List X) (i : ℕ) → position p xs ≡ Some i → i < length xs
position_within p [] i is = cc
position_within p (x ∷ xs) i is = (position-Some p (x ∷ xs) i x is).0

within_rules : (policy : Policy) (polygons : List ℕ → List (List (List Position))) (row : Row) (local : Local) (k : ℕ) → first policy polygons row local ≡ Some k → k < length policy.rules
within_rules policy polygons row local k is = position_within (λ r. meets r polygons row local) policy.rules k is

if_some : (found : Option ℕ) (n : ℕ) → ((k : ℕ) → found ≡ Some k → k < n) → IfSome found (λ k. k < n)
if_some None n h = tt
if_some (Some k) n h = h k refl

-- the index that was found is that of a rule
pub number_within : (policy : Policy) (polygons : List ℕ → List (List (List Position))) (row : Row) (local : Local) (number : Option ℕ) → number ≡ first policy polygons row local → IfSome number (λ n. n < length policy.rules)
number_within policy polygons row local number is = if_some number (length policy.rules) (λ k here. within_rules policy polygons row local k (sym is ∙ here))

-- the first rows of a list, and one more
pub rows_more : {X : Type 0} (row : X → Row) (xs : List X) (n : ℕ) (x : X) → n < length xs → x ≡ get_or xs n x → map row (take (n + 1) xs) ≡ map row (take n xs) ++ row x ∷ []
rows_more row xs n x within here =
    ap (map row) (take_one_more xs n x within) ∙ map-append row (take n xs) (get_or xs n x ∷ []) ∙ ap (λ y. map row (take n xs) ++ row y ∷ []) (sym here)

-- one more row that is counted and listed
pub gathered_more : (rule : Rule) (local : Local) (rows : List Row) (row : Row) (old new : Verdict)
    → (is_evaluated rule.kind ≡ true) × (is_open rule.window local ≡ true) → old ≡ gathered_rule rule local rows
    → new ≡ (record old { status = status_of rule.kind rule.bounds (old.measure + 1); measure = old.measure + 1; devices = cond (nat_lt (length old.devices) MOST_DEVICES) (old.devices ++ row.device ∷ []) old.devices })
    → new ≡ gathered_rule rule local (rows ++ row ∷ [])
gathered_more rule local rows row old new opened is now =
    let before = is ∙ gathered_open rule local rows opened.0 opened.1 in
    let made : ℕ → List (List ℕ) → Verdict = λ k ds. record { rule = rule.id; status = status_of rule.kind rule.bounds k; measure = k; devices = ds } in
    let pushed : List (List ℕ) → List (List ℕ) = λ ds. cond (nat_lt (length ds) MOST_DEVICES) (ds ++ row.device ∷ []) ds in
    now
    ∙ ap (λ (v : Verdict). let w : Verdict = record v { status = status_of rule.kind rule.bounds (v.measure + 1); measure = v.measure + 1; devices = pushed v.devices } in w) before
    ∙ ap (made (length rows + 1)) (listed_next Violated rows row (take MOST_DEVICES (map (λ (r : Row). r.device) rows)) refl refl)
    ∙ ap (λ k. made k (take MOST_DEVICES (map (λ (r : Row). r.device) (rows ++ row ∷ [])))) (sym (length-append rows (row ∷ [])))
    ∙ sym (gathered_open rule local (rows ++ row ∷ []) opened.0 opened.1)

shown_if : (b : Bool) (x y : Verdict) → shown (cond b x y) ≡ cond b (shown x) (shown y)
shown_if true x y = refl
shown_if false x y = refl

shown_listed : (status : Status) (rows : List Row) → shown_devices status (take MOST_DEVICES (map (λ (r : Row). r.device) rows)) ≡ listed status rows
shown_listed NotEvaluated rows = refl
shown_listed Inactive rows = refl
shown_listed Ok rows = refl
shown_listed Violated rows = refl

-- the verdict, from the result of counting
shown_gathered : (rule : Rule) (local : Local) (rows : List Row) → shown (gathered_rule rule local rows) ≡ judged rule local (length rows) rows
shown_gathered rule local rows =
    let status = status_of rule.kind rule.bounds (length rows) in
    let none : Status → Verdict = λ s. record { rule = rule.id; status = s; measure = 0; devices = [] } in
    let made : List (List ℕ) → Verdict = λ ds. record { rule = rule.id; status = status; measure = length rows; devices = ds } in
    shown_if (not (is_evaluated rule.kind)) (none NotEvaluated) (cond (not (is_open rule.window local)) (none Inactive) (made (take MOST_DEVICES (map (λ (r : Row). r.device) rows))))
    ∙ ap (cond (not (is_evaluated rule.kind)) (none NotEvaluated))
    (shown_if (not (is_open rule.window local)) (none Inactive) (made (take MOST_DEVICES (map (λ (r : Row). r.device) rows)))
    ∙ ap (λ ds. cond (not (is_open rule.window local)) (none Inactive) (made ds)) (shown_listed status rows))

pub verdicts_shown : (policy : Policy) (polygons : List ℕ → List (List (List Position))) (rows : List Row) (local : Local) (t : ℕ)
    → map shown (gathered policy polygons rows local t) ≡ verdicts policy polygons rows local t
verdicts_shown policy polygons rows local t =
    let rows_of : ℕ → Rule → List Row = λ k rule. measured policy k rule polygons rows local t in
    map-map shown (λ e. gathered_rule e.1 local (rows_of e.0 e.1)) (enumerate_from 0 policy.rules)
    ∙ numbered_same (λ k rule. judged rule local (length (rows_of k rule)) (rows_of k rule)) (λ k rule. shown (gathered_rule rule local (rows_of k rule))) 0 policy.rules
    (λ k rule low. shown_gathered rule local (rows_of k rule))

-- an element of a list, and what it stands for
pub at_document : {X Y : Type 0} (document : X → Y) (xs : List X) (ys : List Y) (n : ℕ) (x : X) → map document xs ≡ ys → n < length xs → x ≡ get_or xs n x → get_or ys n (document x) ≡ document x
at_document document xs ys n x same within here =
    ap (λ zs. get_or zs n (document x)) (sym same) ∙ get_or-map document xs n x (document x) within ∙ ap document (sym here)
