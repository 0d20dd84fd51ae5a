use Rattle.std.proofs.Common.{◌≡◌, ◌<◌, ◌^◌, length, map, ap, ◌∙◌, arith}
use Rattle.mds_policy.specs.Policy.{policy_document}
use Rattle.mds_match.specs.Row.{row_of}
use Rattle.mds_verdict.specs.Verdict.{verdict_document}
use Rattle.mds_verdict.proofs.Counting.{number_within}
use Rattle.mds_verdict.proofs.Measures.{gathered_at_most, length_held, measures_fit}
use Rattle.mds_verdict.proofs.Numbered.{written_back}
use Rattle.mds_verdict.proofs.tally.VerdictTally.count.Goals as goal

pub count-requires-clause-whole : goal.count-requires-clause-whole
count-requires-clause-whole c =
    length_held (policy_document c.args.policy.now) c.requires.0 c.requires.1 c.requires.2 c.args.moment c.deref_mut.result.now (ap (map verdict_document) c.deref_mut.ensures.value ∙ c.requires.4)

pub count-requires-clause-few : goal.count-requires-clause-few
count-requires-clause-few c =
    measures_fit _ (length c.requires.1) (2 ^ 63) c.deref_mut.result.now (ap (map verdict_document) c.deref_mut.ensures.value ∙ c.requires.4)
    (gathered_at_most (policy_document c.args.policy.now) c.requires.0 c.requires.1 c.requires.2 c.args.moment) c.requires.5

pub count-requires-clause-within : goal.count-requires-clause-within
count-requires-clause-within c =
    number_within (policy_document c.args.policy.now) c.requires.0 (row_of c.args.vehicle.now) c.requires.2 c.args.number c.requires.3

pub returns : goal.returns
returns c polygons rows local is_first held =
    let long : c.args.self.now.rules.len ≡ length c.count.new.held = omega arith in
    ap (map verdict_document) (written_back c.args.self.now.rules.len c.args.self.now.rules.items c.count.new.held long)
    ∙ c.in_ok-count.ensures polygons rows local is_first (ap (map verdict_document) c.deref_mut.ensures.value ∙ held)
