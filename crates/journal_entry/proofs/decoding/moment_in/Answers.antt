use Rattle.std.proofs.Common.{◌≡◌, ℕ, ◌+◌, ◌^◌, ◌<◌, ◌≤◌, true, false, List, ◌++◌, length, ap, refl, sym, ◌∙◌, arith}
use Rattle.std.specs.Prelude.{pos, ◌≤ℤ◌}
use Rattle.std.specs.Int.{w64, to_be_bytes}
use Rattle.std.proofs.Math.Facts.{to_z_pos}
use Rattle.std.proofs.lemmas.Int.{ints}
use Rattle.std.proofs.lemmas.List.{length-append}
use Rattle.mds_text.specs.Fields.{last_moment}
use Rattle.journal_entry.specs.Entries.{moment_text}
use Rattle.journal_entry.proofs.Spelled.{moment_length, moment_fits, same_number}
use Rattle.journal_entry.proofs.decoding.moment_in.Goals as goal

same_pos : (m n : ℕ) → pos m ≡ pos n → m ≡ n
same_pos m n e = cc

pub returns-in_default : goal.returns-in_default
returns-in_default c at rest small e = absurd (omega (arith, c.in_default.ensures, ap length e, length-append (moment_text at) rest, moment_length at))

pub returns-then-number : goal.returns-then-number
unfolding moment_text
returns-then-number c at rest small e =
    let same = same_number c.in-Some.number at c.in-Some.rest.now rest c.in-Some.ensures.1 (moment_fits at small) (sym c.in-Some.ensures.0 ∙ e) in
    absurd (omega (arith, same.0, small, c.if-number.true))

pub returns-in-Some-new : goal.returns-in-Some-new
unfolding moment_text
returns-in-Some-new c =
    let low : c.in-Some.number < 2 ^ 63 = omega (arith, c.if-number.false) in
    let same : c.in-Some-new.at ≡ c.in-Some.number = same_pos _ _ (c.in-Some-new.ensures.value ∙ to_z_pos w64 low) in
    let below = (c.in-Some-new.ensures.range.0 refl).1 in
    let within : c.in-Some-new.at ≤ last_moment = omega (arith, ints, same, rw (to_z_pos w64 low) at below) in
    (c.in-Some.ensures.0 ∙ ap (λ (n : ℕ). to_be_bytes w64 n ++ c.in-Some.rest.now) (sym same), within)

pub returns-in-None : goal.returns-in-None
unfolding moment_text
returns-in-None c at rest small e =
    let same = same_number c.in-Some.number at c.in-Some.rest.now rest c.in-Some.ensures.1 (moment_fits at small) (sym c.in-Some.ensures.0 ∙ e) in
    let low : c.in-Some.number < 2 ^ 63 = omega (arith, c.if-number.false) in
    let within : c.in-Some.number ≤ last_moment = omega (arith, same.0, small) in
    let turned = to_z_pos w64 low in
    let some : false ≡ true = c.in-None.ensures.range.1 (rw turned (omega (arith, ints)), rw turned (omega (arith, ints, within))) in
    absurd cc
