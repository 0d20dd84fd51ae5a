use Rattle.std.proofs.Common.{sym, arith}
use Rattle.mds_json.proofs.Placing.{place_found, place_further, place_last}
use Rattle.mds_json.proofs.members.place_of.Goals as goal

pub returns-in-Less-clause-value : goal.returns-in-Less-clause-value
returns-in-Less-clause-value c =
    place_found c.args.name.now c.args.members.now c.loop-place.place c.index-members-place.result c.loop-place.invariant (omega arith) c.index-members-place.is (sym c.in-Less.ensures)

pub loop-place-preserved : goal.loop-place-preserved
loop-place-preserved c =
    place_further c.args.name.now c.args.members.now c.loop-place.place c.index-members-place.result c.loop-place.invariant (omega arith) c.index-members-place.is (sym c.in-Greater.ensures)

pub returns-clause-value : goal.returns-clause-value
returns-clause-value c = place_last c.args.name.now c.args.members.now c.loop-place.place c.loop-place.invariant (omega arith)
