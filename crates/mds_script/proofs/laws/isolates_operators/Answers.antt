use Rattle.mds_script.proofs.Histories.{isolates_operators}
use Rattle.mds_script.proofs.laws.isolates_operators.Goals as goal

pub returns : goal.returns
returns c = isolates_operators c.begins_keyed.ensures c.is_isolated_throughout.ensures
