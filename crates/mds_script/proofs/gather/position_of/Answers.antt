use Rattle.std.proofs.Common.{◌==◌}
use Rattle.mds_script.proofs.Positions.{first_is_position}
use Rattle.mds_script.proofs.gather.position_of.Goals as goal

pub returns : goal.returns
returns c = first_is_position (λ byte. byte == c.args.wanted) c.args.bytes.now c.memchr.result c.memchr.ensures
