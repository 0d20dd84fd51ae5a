use Rattle.std.proofs.Common.{◌≡◌, ◌<◌, ◌^◌, length, map, sym, ap, ◌∙◌, arith}
use Rattle.std.proofs.lemmas.List.{length-map}
use Rattle.mds_policy.specs.Policy.{policy_document, rule_document}
use Rattle.mds_verdict.specs.Verdict.{verdict_document}
use Rattle.mds_verdict.proofs.Joining.{gathered_joined}
use Rattle.mds_verdict.proofs.Measures.{gathered_at_most, length_held, measures_fit}
use Rattle.mds_verdict.proofs.Numbered.{written_back}
use Rattle.mds_verdict.proofs.tally.VerdictTally.join.Goals as goal

pub join-requires-clause-rules : goal.join-requires-clause-rules
join-requires-clause-rules c =
    let held = length_held (policy_document c.args.policy.now) c.requires.0 c.requires.1 c.requires.3 c.requires.4 c.deref_mut.result.now (ap (map verdict_document) c.deref_mut.ensures.value ∙ c.requires.5) in
    sym (length-map c.rules.result.now rule_document) ∙ ap length c.rules.ensures ∙ sym held

pub join-requires-clause-later : goal.join-requires-clause-later
join-requires-clause-later c =
    let held = length_held (policy_document c.args.policy.now) c.requires.0 c.requires.1 c.requires.3 c.requires.4 c.deref_mut.result.now (ap (map verdict_document) c.deref_mut.ensures.value ∙ c.requires.5) in
    let later = length_held (policy_document c.args.policy.now) c.requires.0 c.requires.2 c.requires.3 c.requires.4 c.deref.result.now (ap (map verdict_document) c.deref.ensures.value ∙ c.requires.6) in
    later ∙ sym held

pub join-requires-clause-few : goal.join-requires-clause-few
join-requires-clause-few c =
    measures_fit _ (length c.requires.1) (2 ^ 63) c.deref_mut.result.now (ap (map verdict_document) c.deref_mut.ensures.value ∙ c.requires.5)
    (gathered_at_most (policy_document c.args.policy.now) c.requires.0 c.requires.1 c.requires.3 c.requires.4) c.requires.7

pub join-requires-clause-few_later : goal.join-requires-clause-few_later
join-requires-clause-few_later c =
    measures_fit _ (length c.requires.2) (2 ^ 63) c.deref.result.now (ap (map verdict_document) c.deref.ensures.value ∙ c.requires.6)
    (gathered_at_most (policy_document c.args.policy.now) c.requires.0 c.requires.2 c.requires.3 c.requires.4) c.requires.8

pub returns : goal.returns
returns c polygons rows more local moment held later =
    let long : c.args.self.now.rules.len ≡ length c.join.new.held = omega arith in
    ap (map verdict_document) (written_back c.args.self.now.rules.len c.args.self.now.rules.items c.join.new.held long)
    ∙ gathered_joined (policy_document c.args.policy.now) polygons local moment rows more c.rules.result.now c.deref_mut.result.now c.deref.result.now c.join.new.held c.rules.ensures
    (ap (map verdict_document) c.deref_mut.ensures.value ∙ held) (ap (map verdict_document) c.deref.ensures.value ∙ later) c.in_ok-join.ensures
