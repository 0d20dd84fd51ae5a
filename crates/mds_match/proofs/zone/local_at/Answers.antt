use Rattle.std.proofs.Common.{◌≡◌, ℕ, ℤ, pos, ◌+ℤ◌, ◌*ℤ◌, unsigned_abs, ap, ◌∙◌, arith, refl}
use Rattle.std.proofs.lemmas.Int.{ints}
use mir.Syntax.{w64}
use mir.Val.{to_z, of_z}
use Rattle.std.specs.Int.{int_div_euclid, int_rem_euclid}
use Rattle.mds_match.specs.declared.local.Local.{Local}
use Rattle.mds_match.specs.Zone.{local_at}
use Rattle.mds_match.proofs.zone.local_at.Goals as goal

-- the four divisions, one after another, give the local time
local_is : (offset : ℤ) (moment : ℕ) (days seconds weekday second : ℤ) (day clock : ℕ) → days ≡ int_div_euclid ((pos moment +ℤ (offset *ℤ pos 1000)) +ℤ pos 345600000) (pos 86400000) → seconds ≡ int_div_euclid (pos moment +ℤ (offset *ℤ pos 1000)) (pos 1000) → weekday ≡ int_rem_euclid days (pos 7) → second ≡ int_rem_euclid seconds (pos 86400) → day ≡ unsigned_abs weekday → clock ≡ unsigned_abs second → (let made : Local = record { weekday = day; second = clock } in made) ≡ local_at offset moment
local_is offset moment days seconds weekday second day clock d s w c e f = rw (e, f, w, c, d, s) refl

pub returns : goal.returns
returns c =
    local_is c.args.offset c.args.at c.div_euclid-days.result c.div_euclid-seconds.result c.rem_euclid.result c.rem_euclid-2.result _ _
    (c.div_euclid-days.ensures ∙ ap (λ z. int_div_euclid z (pos 86400000)) (omega (arith, ints)))
    (c.div_euclid-seconds.ensures ∙ ap (λ z. int_div_euclid z (pos 1000)) (omega (arith, ints)))
    (c.rem_euclid.ensures.value ∙ ap (λ z. int_rem_euclid z (pos 7)) (omega (arith, ints)))
    (c.rem_euclid-2.ensures.value ∙ ap (λ z. int_rem_euclid z (pos 86400)) (omega (arith, ints)))
    (ap unsigned_abs {x = to_z w64 (of_z w64 c.rem_euclid.result)} {y = c.rem_euclid.result} (omega (arith, ints)))
    (ap unsigned_abs {x = to_z w64 (of_z w64 c.rem_euclid-2.result)} {y = c.rem_euclid-2.result} (omega (arith, ints)))
