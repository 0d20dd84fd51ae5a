use Rattle.std.proofs.Common.{rules, ◌≡◌, ◌++◌, map, sym, ap, ◌∙◌}
use Rattle.std.specs.List.{flat_map}
use Rattle.std.specs.FinMap.{values}
use Rattle.std.proofs.lemmas.List.{take_all}
use Rattle.mds_policy.specs.Policy.{policy_document}
use Rattle.mds_match.specs.Row.{row_of}
use Rattle.mds_match.specs.Zone.{local_of}
use Rattle.mds_verdict.specs.Verdict.{verdict_document, verdicts}
use Rattle.mds_catalog.specs.Catalogue.{lent_policy}
use Rattle.mds_catalog.specs.Publication.{published_area}
use Rattle.journal_samples.specs.Held.{standing_of}
use Rattle.journal_samples.specs.Standing.{operator_of}
use Rattle.journal_samples.proofs.Held.{sampled}
use Rattle.journal_samples.proofs.Sampled.{all_told, lent_told, one_more, told_is}
use Rattle.journal_samples.proofs.standing.OperatorStanding.push_samples.Goals as goal

pub loop-policy-preserved : goal.loop-policy-preserved
loop-policy-preserved c =
    let s = standing_of c.args.self.now in
    let t = c.args.at in
    let l = c.loop-policy in
    let policy = c.policy-item.result in
    let document = policy_document policy.document.now in
    let area = published_area s.publications in
    let local : c.in_ok-local.local ≡ local_of s.configuration.zone t = search rules in
    let rows : map (λ v. row_of v.now) c.deref.result.now ≡ values s.rows = ap (map (λ v. row_of v.now)) c.deref.ensures.value ∙ c.in_ok-vehicles.ensures.whole in
    one_more (lent_told s t) c.deref-policy-items.result.now l.policy-index policy c.args.found.now.items l.found.items c.push_policy.new.found.items _
    c.loop-policy-test.true c.policy-item.is l.invariant c.in_ok-push_policy.ensures
    (told_is s t (lent_policy policy) c.id.result (map verdict_document c.deref-in-loop-policy.result.now) c.id.ensures
    (ap (map verdict_document) c.deref-in-loop-policy.ensures.value ∙ c.in_ok-verdicts.ensures.exact
    ∙ ap (λ vehicles. verdicts document area vehicles c.in_ok-local.local t) rows
    ∙ ap (λ time. verdicts document area (values s.rows) time t) local))

pub returns : goal.returns
returns c =
    let s = standing_of c.args.self.now in
    let t = c.args.at in
    let l = c.loop-policy in
    let items = c.deref-policy-items.result.now in
    l.invariant
    ∙ ap (λ xs. c.args.found.now.items ++ xs)
    (ap (flat_map (lent_told s t)) (take_all l.policy-index items c.loop-policy-test.false)
    ∙ all_told s t c.args.self.now.id items (ap (map lent_policy) c.deref-policy-items.ensures.value ∙ c.in_ok-policies.ensures)
    ∙ sym (sampled s t c.args.self.now.id (operator_of s) c.args.self.now.named))
