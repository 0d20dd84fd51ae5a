use Rattle.std.proofs.lemmas.Bool.{eqb-true}
use Rattle.std.proofs.Common.{get_or}
use Rattle.mds_json.proofs.Pointed.{quoted_with_point}
use Rattle.mds_json.proofs.point.is_point.Goals as goal

pub returns-then-place-number : goal.returns-then-place-number
returns-then-place-number c = λ h.
    quoted_with_point c.args.number.now c.args.place c.requires (eqb-true (get_or c.args.number.now c.args.place 0) 46 h)
