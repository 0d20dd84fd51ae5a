use Rattle.std.proofs.Common.{◌≡◌, ◌<◌, ◌≤◌, ◌^◌, [], flat_map, get_or, length, take, subst, sym, arith}
use Rattle.std.proofs.lemmas.List.{take_all}
use Rattle.mds_policy.specs.Policy.{policy_document}
use Rattle.mds_verdict.specs.Gathered.{IsTally}
use Rattle.mds_parallel.proofs.Pieces.{AllZip-lengths, first_at_most, piece_at_most, whole, whole_more}
use Rattle.mds_parallel.proofs.Tallies.{part_at}
use Rattle.mds_parallel.proofs.chunked.join_tallies.Goals as goal

pub join-requires : goal.join-requires
join-requires c =
    let i = c.loop-part.part-index in
    let polygons = c.requires.0 in
    let pieces = c.requires.1 in
    let t = c.requires.2 in
    let are = c.requires.3 in
    let few : length (whole pieces) < 2 ^ 63 = c.requires.4 in
    let within : i < length pieces = omega (arith, AllZip-lengths _ pieces c.args.parts.now are) in (
      polygons,
      whole (take i pieces),
      get_or pieces i [],
      c.args.local,
      t,
      c.loop-part.invariant polygons pieces t are,
      part_at (policy_document c.args.policy.now) polygons pieces c.args.local t c.args.parts.now i c.part-item.result c.in-Ok.tally are (omega arith) c.part-item.is c.in-Ok.is,
      omega (arith, few, first_at_most pieces i),
      omega (arith, few, piece_at_most pieces i within),
    )

pub loop-part-preserved : goal.loop-part-preserved
loop-part-preserved c polygons pieces t are =
    let i = c.loop-part.part-index in
    let policy = policy_document c.args.policy.now in
    let within : i < length pieces = omega (arith, AllZip-lengths _ pieces c.args.parts.now are) in
    subst (λ rows. IsTally c.join.new.self policy polygons rows c.args.local t) (sym (whole_more pieces i within))
    (c.in_ok-join-in-Ok.ensures polygons (whole (take i pieces)) (get_or pieces i []) c.args.local t (c.loop-part.invariant polygons pieces t are)
    (part_at policy polygons pieces c.args.local t c.args.parts.now i c.part-item.result c.in-Ok.tally are (omega arith) c.part-item.is c.in-Ok.is))

pub returns : goal.returns
returns c polygons pieces moment are =
    let all = AllZip-lengths _ pieces c.args.parts.now are in
    subst (λ ps. IsTally c.loop-part.whole (policy_document c.args.policy.now) polygons (whole ps) c.args.local moment)
    (take_all c.loop-part.part-index pieces (omega (arith, all))) (c.loop-part.invariant polygons pieces moment are)
