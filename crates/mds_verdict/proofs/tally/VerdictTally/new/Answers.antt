use Rattle.mds_policy.specs.Policy.{policy_document, rule_document}
use Rattle.mds_verdict.proofs.Measures.{gathered_of_none}
use Rattle.mds_verdict.proofs.tally.VerdictTally.new.Goals as goal

pub returns : goal.returns
returns c polygons moment =
    gathered_of_none rule_document c.rules.result.now (policy_document c.args.policy.now) polygons c.args.local moment _ c.rules.ensures c.in_ok-rules.ensures
