-- The result of counting vehicles: the verdicts, but with the devices of rules that aren't violated too.
use Rattle.std.specs.Prelude.{◌≡◌, ℕ, ◌+◌, ◌-◌, ◌<◌, ◌^◌, List, [], ◌++◌, Option, nat_lt, not, if◌then◌else◌, get_or, length, map, take}
use Rattle.std.specs.List.{enumerate_from}
use Rattle.mds_geometry.specs.declared.position.Position.{Position}
use Rattle.mds_policy.specs.Policy.{Rule, Policy, rule_document}
use Rattle.mds_policy.specs.declared.rule.Rule as program
use Rattle.mds_match.specs.declared.local.Local.{Local}
use Rattle.mds_match.specs.Matching.{is_evaluated, is_open, first}
use Rattle.mds_match.specs.Row.{Row}
use Rattle.mds_verdict.specs.Verdict.{Verdict, measured, status_of, verdict_document}
use Rattle.mds_verdict.specs.declared.tally.VerdictTally.{VerdictTally}
use Rattle.mds_verdict.specs.declared.verdict.RuleVerdict.{RuleVerdict}
use Rattle.mds_verdict.specs.declared.verdict.TheConstants.{MOST_DEVICES}
use Rattle.mds_verdict.specs.declared.verdict.Status.{Status}
use Rattle.mds_verdict.specs.declared.verdict.Status.TheVariants.{NotEvaluated, Inactive, Violated}

-- the verdict on a rule, by these rows where it is evaluated and open, with the first 100 devices whether it is
-- violated or not
abbrev pub gathered_rule : Rule → Local → List Row → Verdict
gathered_rule rule local rows =
    if not (is_evaluated rule.kind) then (record { rule = rule.id; status = NotEvaluated; measure = 0; devices = [] })
    else if not (is_open rule.window local) then (record { rule = rule.id; status = Inactive; measure = 0; devices = [] })
    else (record { rule = rule.id; status = status_of rule.kind rule.bounds (length rows); measure = length rows; devices = take MOST_DEVICES (map (λ row. row.device) rows) })

-- one for each rule of a policy, in their order
abbrev pub gathered : Policy → (List ℕ → List (List (List Position))) → List Row → Local → ℕ → List Verdict
gathered policy polygons rows local t =
    map (λ e. gathered_rule e.1 local (measured policy e.0 e.1 polygons rows local t)) (enumerate_from 0 policy.rules)

-- the devices of a violated rule
abbrev pub shown_devices : Status → List (List ℕ) → List (List ℕ)
shown_devices Violated devices = devices
shown_devices status devices = []

-- the verdict, with its devices only where it is violated
abbrev pub shown : Verdict → Verdict
shown verdict = record verdict { devices = shown_devices verdict.status verdict.devices }

-- the tally of these rows
abbrev pub IsTally : VerdictTally → Policy → (List ℕ → List (List (List Position))) → List Row → Local → ℕ → Type 0
IsTally tally policy polygons rows local t = map verdict_document tally.rules.items ≡ gathered policy polygons rows local t

-- this is the tally of some rows, and the number is that of the first rule that the row meets
abbrev pub MayCount : VerdictTally → Policy → Option ℕ → Row → ℕ → Type 0
MayCount tally policy number row t =
    (polygons : List ℕ → List (List (List Position))) × (rows : List Row) × (local : Local)
    × (number ≡ first policy polygons row local) × (IsTally tally policy polygons rows local t) × (length rows < 2 ^ 63)

-- these are the tallies of some rows and of others
abbrev pub MayJoin : VerdictTally → VerdictTally → Policy → Type 0
MayJoin tally later policy =
    (polygons : List ℕ → List (List (List Position))) × (rows : List Row) × (more : List Row) × (local : Local) × (t : ℕ)
    × (IsTally tally policy polygons rows local t) × (IsTally later policy polygons more local t) × (length rows < 2 ^ 63) × (length more < 2 ^ 63)

-- the result for a rule, with that of later rows added
abbrev pub joined_rule : Rule → Verdict → Verdict → Verdict
joined_rule rule verdict later =
    if nat_lt 0 later.measure
    then (record {
      rule = verdict.rule;
      status = status_of rule.kind rule.bounds (verdict.measure + later.measure);
      measure = verdict.measure + later.measure;
      devices = verdict.devices ++ take (MOST_DEVICES - length verdict.devices) later.devices;
    })
    else verdict

-- at each index the verdict is the first one with the later one added
abbrev pub IsJoined : List program.Rule → List RuleVerdict → List RuleVerdict → List RuleVerdict → Type 0
IsJoined rules held later joined =
    (length joined ≡ length held)
    × ((k : ℕ) (r : program.Rule) (v : RuleVerdict) → k < length held
    → verdict_document (get_or joined k v) ≡ joined_rule (rule_document (get_or rules k r)) (verdict_document (get_or held k v)) (verdict_document (get_or later k v)))
