use Rattle.std.proofs.Common.{◌≡◌, ◌↔◌, ℕ, ◌≤◌, ◌<◌, ◌^◌, ℤ, false, true, Option, Some, None, Result, Ok, Err, IsSome, IfSome, refl, sym, ap, ◌∙◌, arith}
use Rattle.std.specs.Prelude.{pos, ◌≤ℤ◌}
use Rattle.std.specs.Int.{w64}
use Rattle.std.proofs.Math.Facts.{to_z_pos}
use mir.Val.{of_z, to_z}
use Rattle.std.proofs.lemmas.Fmt.{parse-signed_decimal}
use Rattle.std.proofs.lemmas.Int.{ints}
use Rattle.mds_text.specs.Fields.{last_moment}
use Rattle.journal_folder.proofs.compactions.moment_of.Goals as goal

-- what is made of a moment's milliseconds
same_moment : (at : ℕ) (millis : ℤ) (found : Option ℕ) → at ≤ last_moment → millis ≡ pos at
    → (IsSome found ↔ ((pos 0 ≤ℤ millis) × (millis ≤ℤ pos last_moment))) → IfSome found (λ m. pos m ≡ millis) → found ≡ Some at
same_moment at millis None le is range value =
    let some : false ≡ true = range.1 (rw is (omega (arith, ints)), rw is (omega (arith, ints, le))) in
    absurd cc
same_moment at millis (Some m) le is range value = ap Some (let same : pos m ≡ pos at = value ∙ is in cc)

same_ok : {E : Type 0} (a b : ℤ) → ◌≡◌ {A = Result ℤ E} (Ok a) (Ok b) → a ≡ b
same_ok a b e = cc

never_ok : {E : Type 0} (fault : E) (b : ℤ) → ◌≡◌ {A = Result ℤ E} (Err fault) (Ok b) → ⊥
never_ok fault b e = absurd cc

pub returns-in-Ok : goal.returns-in-Ok
returns-in-Ok c = λ at le e.
    let low : at < 2 ^ 63 = omega (arith, le) in
    let parsed = parse-signed_decimal {E = ℕ} w64 (pos at) c.args.digits.now (Ok c.in-Ok.millis) (omega (arith, le)) (omega (arith, le)) (sym e) c.in-Ok.ensures.value.0 in
    let millis = same_ok {E = ℕ} c.in-Ok.millis (pos at) parsed in
    let shown : to_z w64 (of_z w64 c.in-Ok.millis) ≡ pos at = ap (λ (z : ℤ). to_z w64 (of_z w64 z)) millis ∙ to_z_pos w64 low in
    same_moment at (to_z w64 (of_z w64 c.in-Ok.millis)) c.new.result le shown c.new.ensures.range c.new.ensures.value

pub returns-in-Err : goal.returns-in-Err
returns-in-Err c = λ at le e.
    absurd (never_ok c.in-Err.field-0 (pos at)
    (parse-signed_decimal w64 (pos at) c.args.digits.now (Err c.in-Err.field-0) (omega (arith, le)) (omega (arith, le)) (sym e) c.in-Err.ensures.value.0))
