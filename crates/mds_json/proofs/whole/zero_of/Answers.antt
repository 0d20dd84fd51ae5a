use Rattle.mds_json.proofs.Wholes.{zero_is}
use Rattle.mds_json.proofs.whole.zero_of.Goals as goal

pub returns-then-digits-eq1-clause-written : goal.returns-then-digits-eq1-clause-written
returns-then-digits-eq1-clause-written c = zero_is c.args.digits.now c.requires c.if-digits-eq1.true
