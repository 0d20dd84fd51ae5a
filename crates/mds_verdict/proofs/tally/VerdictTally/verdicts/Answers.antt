use Rattle.std.proofs.Common.{◌≡◌, length, map, ap, ◌∙◌, arith}
use Rattle.mds_verdict.specs.Gathered.{shown}
use Rattle.mds_verdict.specs.Verdict.{verdict_document}
use Rattle.mds_verdict.proofs.Counting.{verdicts_shown}
use Rattle.mds_verdict.proofs.Numbered.{written_back}
use Rattle.mds_verdict.proofs.tally.VerdictTally.verdicts.Goals as goal

pub returns : goal.returns
returns c policy polygons rows local moment is =
    let long : c.args.self.rules.len ≡ length c.trim_verdicts.new.held = omega arith in
    ap (map verdict_document) (written_back c.args.self.rules.len c.args.self.rules.items c.trim_verdicts.new.held long)
    ∙ c.trim_verdicts.ensures ∙ ap (λ vs. map shown (map verdict_document vs)) c.deref_mut.ensures.value ∙ ap (map shown) is
    ∙ verdicts_shown policy polygons rows local moment
