use Rattle.std.proofs.Common.{Some, ap, ◌∙◌}
use Rattle.mds_json.specs.Direct.{whole_number}
use Rattle.mds_json.proofs.Wholes.{whole_number-decimal, plus_is}
use Rattle.mds_json.proofs.whole.whole_number.Goals as goal

pub returns-in_ok-size_of-in_default : goal.returns-in_ok-size_of-in_default
returns-in_ok-size_of-in_default c =
    let found = c.in_ok-size_of-in_default in
    ap whole_number found.ensures.written ∙ whole_number-decimal found.field-0 found.ensures.below ∙ ap Some (plus_is found.field-0 found.ensures.below)
