use Rattle.std.proofs.Common.{rules}
use Rattle.server_public.proofs.Numbers.{reads}
use Rattle.server_public.proofs.period.number.Goals as goal

pub returns : goal.returns
returns c = search (rules, reads c.args.text.now _ c.parse.ensures.value.0)
