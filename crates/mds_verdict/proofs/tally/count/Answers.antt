use Rattle.std.proofs.Common.{◌≡◌, ◌<◌, [], ◌∷◌, ◌++◌, Some, length, map, get_or, set, sym, ap, ◌∙◌, arith}
use Rattle.std.proofs.lemmas.List.{length-map, map-set}
use Rattle.std.proofs.lemmas.List.Quantifiers.{position-Some}
use Rattle.mds_policy.specs.Policy.{policy_document, rule_document}
use Rattle.mds_match.specs.Matching.{meets, first}
use Rattle.mds_match.specs.Row.{row_of}
use Rattle.mds_verdict.specs.Gathered.{gathered_rule}
use Rattle.mds_verdict.specs.Verdict.{measured, verdict_document}
use Rattle.mds_verdict.proofs.Counting.{at_document, gathered_more, evaluated_and_open, get_or-values, values-adding, values-not_adding}
use Rattle.mds_verdict.proofs.tally.count.Goals as goal

pub returns-in_ok-count_device : goal.returns-in_ok-count_device
returns-in_ok-count_device c polygons rows local is_first held =
    let policy = policy_document c.args.policy.now in
    let row = row_of c.args.vehicle.now in
    let moment = c.args.moment in
    let number = c.in-Some.number in
    let rule = rule_document c.index-rules-number.result in
    let old = verdict_document (get_or c.args.held.now number c.index-held-number.result) in
    let found : first policy polygons row local ≡ Some number = sym is_first ∙ c.in-Some.is in
    let within : number < length policy.rules = (position-Some (λ r. meets r polygons row local) policy.rules number rule found).0 in
    let here = at_document rule_document c.rules.result.now policy.rules number c.index-rules-number.result c.rules.ensures (omega (arith, within, ap length c.rules.ensures, length-map c.rules.result.now rule_document)) c.index-rules-number.is in
    let there = at_document verdict_document c.args.held.now _ number c.index-held-number.result held (omega (arith, within, c.requires.whole)) c.index-held-number.is in
    let before = measured policy number rule polygons rows local moment in
    let is : old ≡ gathered_rule rule local before =
    ap verdict_document (sym c.index-held-number.is) ∙ sym there ∙ get_or-values policy polygons rows local moment (λ k r rs. gathered_rule r local rs) number rule (verdict_document c.index-held-number.result) within here in
    map-set verdict_document c.args.held.now number c.count_device.new.verdict
    ∙ ap (set (map verdict_document c.args.held.now) number) (gathered_more rule local before row old (verdict_document c.count_device.new.verdict) (evaluated_and_open policy polygons row local number rule found here) is c.in_ok-count_device.ensures)
    ∙ ap (λ vs. set vs number (gathered_rule rule local (before ++ row ∷ []))) held
    ∙ sym (values-adding policy polygons rows row local moment (λ k r rs. gathered_rule r local rs) number rule found within here (sym c.adds.ensures ∙ c.if-adds.true))

pub returns-else-adds : goal.returns-else-adds
returns-else-adds c polygons rows local is_first held =
    let policy = policy_document c.args.policy.now in
    let row = row_of c.args.vehicle.now in
    let number = c.in-Some.number in
    let rule = rule_document c.index-rules-number.result in
    let found : first policy polygons row local ≡ Some number = sym is_first ∙ c.in-Some.is in
    let within : number < length policy.rules = (position-Some (λ r. meets r polygons row local) policy.rules number rule found).0 in
    let here = at_document rule_document c.rules.result.now policy.rules number c.index-rules-number.result c.rules.ensures (omega (arith, within, ap length c.rules.ensures, length-map c.rules.result.now rule_document)) c.index-rules-number.is in
    held ∙ sym (values-not_adding policy polygons rows row local c.args.moment (λ k r rs. gathered_rule r local rs) number rule found within here (sym c.adds.ensures ∙ c.if-adds.false))
