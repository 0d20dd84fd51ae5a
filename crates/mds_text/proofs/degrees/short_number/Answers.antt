use Rattle.std.proofs.Common.{sym, arith}
use Rattle.mds_text.specs.Numbers.{parts_view}
use Rattle.mds_text.proofs.Digits.{number_of-digits}
use Rattle.mds_text.proofs.degrees.short_number.Goals as goal

pub returns-then-number-le-MOST_EXPONENT_DIGITS-clause-digits : goal.returns-then-number-le-MOST_EXPONENT_DIGITS-clause-digits
returns-then-number-le-MOST_EXPONENT_DIGITS-clause-digits c = (number_of-digits c.args.text.now (parts_view c.in-Some.number) (sym c.in-Some.ensures)).0

pub returns-then-number-le-MOST_EXPONENT_DIGITS-clause-short : goal.returns-then-number-le-MOST_EXPONENT_DIGITS-clause-short
returns-then-number-le-MOST_EXPONENT_DIGITS-clause-short c =
    let few = (number_of-digits c.args.text.now (parts_view c.in-Some.number) (sym c.in-Some.ensures)).1 in (omega arith, c.if-number-le-MOST_EXPONENT_DIGITS.true)
