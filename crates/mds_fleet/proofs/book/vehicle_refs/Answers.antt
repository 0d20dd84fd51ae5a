use Rattle.std.proofs.Common.{rules, tests}
use Rattle.std.proofs.lemmas.Iterator.{YieldsList-from_map_by}
use Rattle.std.proofs.lemmas.Iterator.Consumers.{map_from_collect, YieldsList-from_rest}
use Rattle.std.specs.BTreeMap.{values}
use Rattle.mds_fleet.proofs.book.vehicle_refs.Goals as goal

-- the closure borrows from the box
pub returns-clause-whole : goal.returns-clause-whole
returns-clause-whole c =
    map_from_collect _ c.collect.ensures.ran
    (YieldsList-from_map_by _ (λ r. r.now) (λ b. b.value) (YieldsList-from_rest (values c.args.vehicles.now) cc) c.map.ensures.closure (λ x r q k. search (rules, tests)))
