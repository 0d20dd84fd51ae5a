use Rattle.std.proofs.Common.{arith, IfSome, ◌∷◌, drop, length, ◌≡◌, get_or}
use Rattle.std.proofs.lemmas.List.{length-drop}
use Rattle.std.proofs.lemmas.Option.{IfSome_then}
use Rattle.mds_geometry.proofs.Eights.{IsSeven, behind_point, seven_found}
use Rattle.mds_geometry.proofs.decimal.seven_decimals.Goals as goal

found : (c : goal.After-eight_digits) → IfSome c.eight_digits.result (IsSeven (drop 1 c.args.fraction.now))
found c =
    let t = c.args.fraction.now in
    let s = drop 1 t in
    let point : get_or t 0 0 ≡ 46 = c.if-fraction-ne46.false in
    let word = behind_point t c.from_le_bytes.result c.told-fraction c.fits-fraction point c.from_le_bytes.ensures in
    let long : length s ≡ 7 = omega (arith, length-drop 1 t, c.told-fraction) in
    seven_found s c.eight_digits.result long (c.eight_digits.ensures.digits (48 ∷ s) word.0 word.1) (c.eight_digits.ensures.value (48 ∷ s) word.0 word.1)

pub returns-clause-value : goal.returns-clause-value
returns-clause-value c = IfSome_then c.eight_digits.result (found c) (λ n h. h.value)

pub returns-clause-count : goal.returns-clause-count
returns-clause-count c = IfSome_then c.eight_digits.result (found c) (λ n h. h.count)

pub returns-clause-all : goal.returns-clause-all
returns-clause-all c = IfSome_then c.eight_digits.result (found c) (λ n h. h.all)

pub returns-clause-small : goal.returns-clause-small
returns-clause-small c = IfSome_then c.eight_digits.result (found c) (λ n h. h.small)
