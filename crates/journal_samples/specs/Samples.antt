-- Samples: the verdicts that an operator would have been told at a moment, rule by rule.
use Rattle.std.specs.Prelude.{◌≡◌, ℕ, Bool, true, ◌&&◌, nat_le, List, [], ◌∷◌, map, length, codes}
use Rattle.std.specs.List.{enumerate_from, flat_map}
use Rattle.std.specs.Option.{option_map_or}
use Rattle.std.specs.FinMap.{values}
use Rattle.mds_policy.specs.Policy.{Policy}
use Rattle.mds_match.specs.Zone.{local_of}
use Rattle.mds_verdict.specs.Verdict.{Verdict, verdicts, reported}
use Rattle.mds_catalog.specs.Publication.{Published, in_force, published_area}
use Rattle.mds_request.specs.Configuration.{Operator}
use Rattle.mds_machine.specs.Answer.{told}
use Rattle.mds_machine.specs.Bodies.{compliance_json, list_json}
use Rattle.mds_machine.specs.Operator.{compliance_reply}
use Rattle.journal_entry.specs.Entries.{Entry}
use Rattle.journal_samples.specs.Standing.{Standing, operator_of, standing_at}
use Rattle.journal_samples.specs.declared.sample.RuleSample.{RuleSample}

-- a policy with the verdicts on its rules
abbrev pub judged : Standing → ℕ → Published Policy → Policy × List Verdict
judged s t p =
    (p.document, verdicts p.document (published_area s.publications) (values s.rows) (local_of s.configuration.zone t) t)

-- the policies in force for the operator with this identifier, in the order of publication, with their verdicts
abbrev pub judged_at : Standing → List ℕ → ℕ → List (Policy × List Verdict)
judged_at s id t = map (judged s t) (in_force s.publications id t)

-- the sample of a rule: its number in the policy, counted from 0, and the verdict on it
abbrev pub rule_sample : ℕ → List ℕ → ℕ × Verdict → RuleSample
rule_sample t policy e =
    record { at = t; policy = policy; number = e.0; rule = e.1.rule; status = e.1.status; measure = e.1.measure }

abbrev pub policy_samples : ℕ → List ℕ → List Verdict → List RuleSample
policy_samples t policy verdicts = map (rule_sample t policy) (enumerate_from 0 verdicts)

-- the samples of an operator's policies and their rules
abbrev pub samples_for : Standing → ℕ → List ℕ → List RuleSample
samples_for s t id = flat_map (λ e. policy_samples t e.0.id e.1) (judged_at s id t)

abbrev pub samples_at : Standing → ℕ → List RuleSample
samples_at s t = option_map_or (λ o. samples_for s t o.id) (operator_of s) []

-- the samples at these moments, each over what stood then
abbrev pub samples_by : Standing → List Entry → List ℕ → List RuleSample
samples_by s entries moments = flat_map (λ t. samples_at (standing_at s entries t) t) moments

-- moments in order, none before this one
abbrev pub ascends : ℕ → List ℕ → Bool
ascends t [] = true
ascends t (u ∷ moments) = nat_le t u && ascends u moments

-- What is sampled is what the operator would have been answered to `GET /compliance`.
abbrev pub SamplesAreAnswers : Type 0
SamplesAreAnswers =
    (s : Standing) (operator : Operator) (t : ℕ)
    → compliance_reply s.configuration.zone operator s.publications s.rows t
    ≡ told (compliance_json t (codes "policies") (list_json (map (λ e. reported e.0 e.1) (judged_at s operator.id t))) (length s.publications))
