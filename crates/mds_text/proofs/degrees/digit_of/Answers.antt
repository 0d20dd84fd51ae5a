use Rattle.mds_text.proofs.Leading.{digit_is}
use Rattle.mds_text.proofs.degrees.digit_of.Goals as goal

pub returns-clause-value : goal.returns-clause-value
returns-clause-value c = (digit_is c.args.digits.now c.args.place c.saturating_sub.result c.requires.digits c.requires.within c.saturating_sub.ensures).0

pub returns-clause-small : goal.returns-clause-small
returns-clause-small c = (digit_is c.args.digits.now c.args.place c.saturating_sub.result c.requires.digits c.requires.within c.saturating_sub.ensures).1
