use Rattle.std.proofs.Common.{rules}
use Rattle.server_start.proofs.Counts.{reads}
use Rattle.server_start.proofs.count.count_of.Goals as goal

pub returns : goal.returns
returns c = search (rules, reads c.args.text.now _ c.parse.ensures.value.0)
