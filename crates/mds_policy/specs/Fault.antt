-- Why a policy is refused.
use Rattle.std.specs.Prelude.{ℕ, List, codes, Option, Some}
use Rattle.mds_text.specs.Fault.{Fault, decimal, too_many_rules, text_cause, text_wording}
use Rattle.mds_policy.specs.declared.fault.PolicyFault.{PolicyFault}
use Rattle.mds_policy.specs.declared.fault.PolicyFault.TheVariants.{Text, Decimal, TooManyRules}

-- the reason that a fault stands for; out of memory is none
abbrev pub policy_cause : PolicyFault → Option Fault
policy_cause (Text fault) = text_cause fault
policy_cause Decimal = Some decimal
policy_cause TooManyRules = Some too_many_rules

-- the message of a policy's fault
abbrev pub policy_wording : PolicyFault → List ℕ
policy_wording (Text fault) = text_wording fault
policy_wording Decimal = codes "decimal"
policy_wording TooManyRules = codes "too many rules"
