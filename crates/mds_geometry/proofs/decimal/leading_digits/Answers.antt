use Rattle.std.proofs.Common.{arith, ◌≡◌, ◌∙◌, below_more, true, false, length, get_or}
use Rattle.std.specs.Char.{is_ascii_digit}
use Rattle.std.proofs.lemmas.Bool.Decides.{nat_tests}
use Rattle.mds_geometry.proofs.Decimals.{digits_end, digit_turn, value_end}
use Rattle.mds_geometry.proofs.decimal.leading_digits.Goals as goal

pub returns-then-not-is_ascii_digit-clause-value : goal.returns-then-not-is_ascii_digit-clause-value
returns-then-not-is_ascii_digit-clause-value c =
    let s = c.args.text.now in
    let stop : is_ascii_digit (get_or s c.loop-place.place 0) ≡ false = grind (arith, nat_tests) in
    value_end s c.loop-place.place c.loop-place.value c.loop-place.invariant.value
    (digits_end s c.loop-place.place (omega arith) c.loop-place.invariant.digits (λ within. stop))

pub returns-then-not-is_ascii_digit-clause-count : goal.returns-then-not-is_ascii_digit-clause-count
returns-then-not-is_ascii_digit-clause-count c =
    let s = c.args.text.now in
    let stop : is_ascii_digit (get_or s c.loop-place.place 0) ≡ false = grind (arith, nat_tests) in
    digits_end s c.loop-place.place (omega arith) c.loop-place.invariant.digits (λ within. stop)

pub loop-place-preserved : goal.loop-place-preserved
loop-place-preserved c =
    let s = c.args.text.now in
    let i = c.loop-place.place in
    let is : is_ascii_digit (get_or s i 0) ≡ true = grind (arith, nat_tests) in
    let turn = digit_turn s i c.loop-place.value c.from.result (omega arith) is c.from.ensures c.loop-place.invariant.value c.loop-place.invariant.small in
    record {
      value = turn.0;
      small = turn.1;
      few = omega arith;
      digits = below_more _ _ c.loop-place.invariant.digits is;
    }

pub returns-clause-value : goal.returns-clause-value
returns-clause-value c =
    let s = c.args.text.now in
    value_end s c.loop-place.place c.loop-place.value c.loop-place.invariant.value
    (digits_end s c.loop-place.place (omega arith) c.loop-place.invariant.digits (λ within. absurd (omega arith)))

pub returns-clause-count : goal.returns-clause-count
returns-clause-count c =
    let end : length c.args.text.now ≡ c.loop-place.place = omega arith in
    end ∙ digits_end c.args.text.now c.loop-place.place (omega arith) c.loop-place.invariant.digits (λ within. absurd (omega arith))
