use Rattle.mds_json.proofs.Wholes.{size_is}
use Rattle.mds_json.proofs.whole.size_of.Goals as goal

pub returns-in-Ok-clause-written : goal.returns-in-Ok-clause-written
returns-in-Ok-clause-written c =
    (size_is c.args.digits.now c.parse_u64.result c.in-Ok.size c.parse_u64.ensures c.in-Ok.is c.if-first-eq43.false c.if-first-eq48.false c.if-digits-gt-MOST_DIGITS.false).0

pub returns-in-Ok-clause-below : goal.returns-in-Ok-clause-below
returns-in-Ok-clause-below c =
    (size_is c.args.digits.now c.parse_u64.result c.in-Ok.size c.parse_u64.ensures c.in-Ok.is c.if-first-eq43.false c.if-first-eq48.false c.if-digits-gt-MOST_DIGITS.false).1
