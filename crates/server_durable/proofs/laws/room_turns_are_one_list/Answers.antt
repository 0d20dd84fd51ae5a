use Rattle.server_durable.proofs.Left.{one_list}
use Rattle.server_durable.proofs.laws.room_turns_are_one_list.Goals as goal

pub returns : goal.returns
returns g c =
    one_list c.args.one.now.front.seen.log c.args.other.now.front.seen.log c.begins-comes_first.result c.begins-comes_second.result
    c.begins-comes_first.ensures.begins c.begins-comes_first.ensures.fewer c.begins-comes_second.ensures.begins c.begins-comes_second.ensures.fewer
