use Rattle.std.proofs.Common.{◌≡◌, ◌<◌, ◌^◌, length, map, ap, ◌∙◌, arith}
use Rattle.mds_policy.specs.Policy.{policy_document}
use Rattle.mds_verdict.specs.Gathered.{shown}
use Rattle.mds_verdict.specs.Verdict.{verdict_document, verdicts}
use Rattle.mds_verdict.proofs.Counting.{verdicts_shown}
use Rattle.mds_verdict.proofs.Measures.{measures_fit, verdicts_at_most}
use Rattle.mds_verdict.proofs.Numbered.{written_back}
use Rattle.mds_bitmaps.proofs.columns.verdicts_by.Goals as goal

pub returns-clause-exact : goal.returns-clause-exact
returns-clause-exact c polygons rows are =
    let long : c.in_ok-held.held.len ≡ length c.trim_verdicts.new.held = omega arith in
    ap (map verdict_document) (written_back c.in_ok-held.held.len c.in_ok-held.held.items c.trim_verdicts.new.held long)
    ∙ c.trim_verdicts.ensures ∙ ap (λ vs. map shown (map verdict_document vs)) c.deref_mut.ensures.value ∙ ap (map shown) (c.in_ok-held.ensures polygons rows are)
    ∙ verdicts_shown (policy_document c.args.policy.now) polygons rows c.args.local c.args.moment

pub returns-clause-fits : goal.returns-clause-fits
returns-clause-fits c =
    let policy = policy_document c.args.policy.now in
    let polygons = c.requires.columns.0 in
    let rows = c.requires.columns.1 in
    let few : length c.args.columns.now.masks.now < 2 ^ 63 = omega arith in
    measures_fit (verdicts policy polygons rows c.args.local c.args.moment) (length rows) (2 ^ 63) _ (returns-clause-exact c polygons rows c.requires.columns.2)
    (verdicts_at_most policy polygons rows rows c.args.local c.args.moment) (omega (arith, few, c.requires.columns.2.long))
