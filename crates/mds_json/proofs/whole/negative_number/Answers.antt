use Rattle.std.proofs.Common.{Some, ap, ◌∙◌, ◌∷◌}
use Rattle.mds_json.specs.Direct.{whole_number}
use Rattle.mds_json.proofs.Wholes.{whole_number-minus, minus_is}
use Rattle.mds_json.proofs.whole.negative_number.Goals as goal

pub returns : goal.returns
returns c =
    let n = c.in_ok-size.size in
    ap (λ ds. whole_number (45 ∷ ds)) c.in_ok-size.ensures.written ∙ whole_number-minus n c.if-size-eq0.false c.in_ok-size.ensures.below ∙ ap Some (minus_is n c.in_ok-size.ensures.below)
