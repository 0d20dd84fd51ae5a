-- Verdicts, and the text of a report.
use Rattle.std.specs.Prelude.{ℕ, List, [], ◌++◌, codes}
use Rattle.mds_verdict.specs.Verdict.{Verdict}
use Rattle.mds_verdict.specs.declared.verdict.Status.{Status}
use Rattle.mds_verdict.specs.declared.verdict.Status.TheVariants.{Violated}
use Rattle.tests_examples_core.specs.Ids.{id_text}

-- the verdict on a rule that isn't violated
abbrev pub verdict : List ℕ → Status → ℕ → Verdict
verdict rule status measure = record { rule = rule; status = status; measure = measure; devices = [] }

-- the verdict on a rule that is violated, with the devices that it lists
abbrev pub violated : List ℕ → ℕ → List (List ℕ) → Verdict
violated rule measure devices = record { rule = rule; status = Violated; measure = measure; devices = devices }

-- an entry of a report: with the end of the rule's identifier, and the text of `devices` where it has that member
abbrev pub entry_text : List ℕ → List ℕ → List ℕ → List ℕ → List ℕ
entry_text devices measure rule status =
    codes "{" ++ devices ++ codes "\"measure\":" ++ measure ++ codes ",\"rule_id\":\"" ++ id_text rule ++ codes "\",\"status\":\"" ++ status ++ codes "\"}"

-- the text of a report on the cap with these entries
abbrev pub report_text : List ℕ → List ℕ
report_text entries = codes "{\"policy_id\":\"" ++ id_text (codes "201") ++ codes "\",\"rules\":[" ++ entries ++ codes "]}"

-- the text of the report where the cap's rule is kept, with this measure
abbrev pub kept_text : List ℕ → List ℕ
kept_text measure = report_text (entry_text [] measure (codes "301") (codes "ok"))

-- the text of the report where the cap's rule is violated by two vehicles
abbrev pub violated_text : List ℕ
violated_text =
    report_text (entry_text (codes "\"devices\":[\"" ++ id_text (codes "401") ++ codes "\",\"" ++ id_text (codes "402") ++ codes "\"],") (codes "2") (codes "301") (codes "violated"))
