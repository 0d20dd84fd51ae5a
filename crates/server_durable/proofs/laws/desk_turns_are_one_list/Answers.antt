use Rattle.server_durable.proofs.Left.{one_list}
use Rattle.std.proofs.Common.{sym}
use Rattle.server_durable.proofs.laws.desk_turns_are_one_list.Goals as goal

pub returns : goal.returns
returns g c =
    let same = c.requires in
    one_list c.args.one.now.front.seen.log c.args.other.now.front.seen.log c.begins-is_first.result c.begins-is_second.result
    c.begins-is_first.ensures.begins (c.begins-is_first.ensures.fewer same) c.begins-is_second.ensures.begins
    (c.begins-is_second.ensures.fewer (sym same))
