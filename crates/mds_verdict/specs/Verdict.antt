-- The verdicts on the rules of a policy, and the report on them (MDS 2.0 Policy, rules and order of operations).
use Rattle.std.specs.Prelude.{ℕ, ◌*◌, ◌-◌, ◌==◌, pos, List, [], ◌∷◌, Bool, true, false, ◌&&◌, not, nat_le, nat_lt, if◌then◌else◌, Option, Some, None, ◌++◌, length, filter, map, take, codes}
use Rattle.std.specs.List.{enumerate_from}
use Rattle.std.specs.List.Sorted.{IsStrictlySortedBy}
use Rattle.std.specs.Cmp.Lexicographic.{slice_cmp}
use Rattle.std.specs.Ordering.{nat_cmp}
use Rattle.uuid.specs.Text.{hyphenated_text, lower}
use Rattle.mds_text.specs.Tree.{Json, int, text, list, object, items_of, members_of}
use Rattle.mds_geometry.specs.declared.position.Position.{Position}
use Rattle.mds_policy.specs.Policy.{Rule, Policy}
use Rattle.mds_policy.specs.declared.rule.Bounds.{Bounds}
use Rattle.mds_policy.specs.declared.rule.Kind.{Kind}
use Rattle.mds_policy.specs.declared.rule.Kind.TheVariants.{Count, Time, Other}
use Rattle.mds_policy.specs.declared.rule.TimeUnit.{TimeUnit}
use Rattle.mds_policy.specs.declared.rule.TimeUnit.TheVariants.{Seconds, Minutes, Hours, Days}
use Rattle.mds_match.specs.declared.local.Local.{Local}
use Rattle.mds_match.specs.Matching.{is_evaluated, is_open, caught}
use Rattle.mds_match.specs.Row.{Row}
use Rattle.mds_verdict.specs.declared.verdict.TheConstants.{MOST_DEVICES}
use Rattle.mds_verdict.specs.declared.verdict.RuleVerdict.{RuleVerdict}
use Rattle.mds_verdict.specs.declared.verdict.Status.{Status}
use Rattle.mds_verdict.specs.declared.verdict.Status.TheVariants.{NotEvaluated, Inactive, Ok, Violated}

-- rows that ascend by device id, each device once
abbrev pub Ascends : List Row → Type 0
Ascends rows = IsStrictlySortedBy (slice_cmp nat_cmp) (map (λ row. row.device) rows)

-- a number reaches another one; an equal one only where it is inclusive
abbrev pub reaches : Bool → ℕ → ℕ → Bool
reaches inclusive least x = if inclusive then nat_le least x else nat_lt least x

-- a number isn't below the minimum, where there is one
abbrev pub above_minimum : Option ℕ → Bool → ℕ → ℕ → Bool
above_minimum None inclusive unit x = true
above_minimum (Some minimum) inclusive unit x = reaches inclusive (minimum * unit) x

-- a number isn't above the maximum, where there is one
abbrev pub below_maximum : Option ℕ → Bool → ℕ → ℕ → Bool
below_maximum None inclusive unit x = true
below_maximum (Some maximum) inclusive unit x = reaches inclusive x (maximum * unit)

-- a number lies within the bounds times the unit
abbrev pub within : Bounds → ℕ → ℕ → Bool
within bounds unit x =
    above_minimum bounds.minimum bounds.inclusive_minimum unit x && below_maximum bounds.maximum bounds.inclusive_maximum unit x

-- the unit of a time rule, in milliseconds
abbrev pub millis : TimeUnit → ℕ
millis Seconds = 1000
millis Minutes = 60000
millis Hours = 3600000
millis Days = 86400000

-- how long a vehicle has been in its state at a moment; 0 at an earlier moment
abbrev pub dwell : Row → ℕ → ℕ
dwell row t = t - row.since

-- whether a vehicle that a rule catches counts towards its measure: each one does for a count rule, and for a time rule
-- each one whose dwell time is outside the bounds
abbrev pub adds : Kind → Bounds → ℕ → Row → Bool
adds Count bounds t row = true
adds (Time unit) bounds t row = not (within bounds (millis unit) (dwell row t))
adds Other bounds t row = false

-- the rows that a rule's measure counts
abbrev pub measured : Policy → ℕ → Rule → (List ℕ → List (List (List Position))) → List Row → Local → ℕ → List Row
measured policy n rule polygons rows local t = filter (adds rule.kind rule.bounds t) (caught policy n polygons rows local)

-- a count rule is violated where its measure is outside the bounds, a time rule where its measure isn't 0
abbrev pub status_of : Kind → Bounds → ℕ → Status
status_of Count bounds measure = if within bounds 1 measure then Ok else Violated
status_of (Time unit) bounds measure = if measure == 0 then Ok else Violated
status_of Other bounds measure = NotEvaluated

-- the devices of the first 100 of these rows, for a violated rule
abbrev pub listed : Status → List Row → List (List ℕ)
listed Violated rows = take MOST_DEVICES (map (λ row. row.device) rows)
listed status rows = []

-- the verdict on a rule
pub record Verdict : Type 0 where
  pub rule : List ℕ
  pub status : Status
  pub measure : ℕ
  pub devices : List (List ℕ)

-- the verdict of the program's `RuleVerdict`
abbrev pub verdict_document : RuleVerdict → Verdict
verdict_document v = record { rule = v.rule; status = v.status; measure = v.measure; devices = v.devices.items }

-- the verdict on a rule, by this measure and these rows where it is evaluated and open
abbrev pub judged : Rule → Local → ℕ → List Row → Verdict
judged rule local measure rows =
    if not (is_evaluated rule.kind) then (record { rule = rule.id; status = NotEvaluated; measure = 0; devices = [] })
    else if not (is_open rule.window local) then (record { rule = rule.id; status = Inactive; measure = 0; devices = [] })
    else (record { rule = rule.id; status = status_of rule.kind rule.bounds measure; measure = measure; devices = listed (status_of rule.kind rule.bounds measure) rows })

-- one verdict for each rule of a policy, in their order, by the rows that are counted and those that are listed
abbrev pub verdicts_by : Policy → (List ℕ → List (List (List Position))) → List Row → List Row → Local → ℕ → List Verdict
verdicts_by policy polygons counted named local t =
    map (λ e. judged e.1 local (length (measured policy e.0 e.1 polygons counted local t)) (measured policy e.0 e.1 polygons named local t)) (enumerate_from 0 policy.rules)

-- the verdicts on a policy's rules
abbrev pub verdicts : Policy → (List ℕ → List (List (List Position))) → List Row → Local → ℕ → List Verdict
verdicts policy polygons rows local t = verdicts_by policy polygons rows rows local t

-- the name of a status in a report
abbrev pub status_name : Status → List ℕ
status_name NotEvaluated = codes "not_evaluated"
status_name Inactive = codes "inactive"
status_name Ok = codes "ok"
status_name Violated = codes "violated"

-- an identifier as the server prints it: in lower case, with hyphens (RFC 9562, section 4)
abbrev pub printed_id : List ℕ → Json
printed_id id = text (hyphenated_text lower id)

-- the vehicles that a violated rule counts; the entry of any other rule has no such member
abbrev pub reported_devices : Status → List (List ℕ) → List (List ℕ × Json)
reported_devices Violated devices = (codes "devices", list (items_of (map printed_id devices))) ∷ []
reported_devices status devices = []

abbrev pub reported_rule : Verdict → Json
reported_rule verdict =
    object (members_of (reported_devices verdict.status verdict.devices
    ++ (codes "measure", int (pos verdict.measure)) ∷ (codes "rule_id", printed_id verdict.rule) ∷ (codes "status", text (status_name verdict.status)) ∷ []))

-- the report on a policy:
-- `{"policy_id":"..","rules":[{"devices":[".."],"measure":m,"rule_id":"..","status":"violated"}, ..]}`
abbrev pub reported : Policy → List Verdict → Json
reported policy verdicts =
    object (members_of ((codes "policy_id", printed_id policy.id) ∷ (codes "rules", list (items_of (map reported_rule verdicts))) ∷ []))
