use Rattle.std.proofs.Common.{◌≡◌, map, sym, subst, ap, ◌∙◌}
use Rattle.mds_text.specs.Fault.{Gives}
use Rattle.mds_text.proofs.Views.{entries-items_of}
use Rattle.mds_json.specs.Node.{node_view, pair_view}
use Rattle.mds_json.proofs.Nodes.{node-Pairs}
use Rattle.mds_geography.specs.Fault.{geo_cause}
use Rattle.mds_geography.specs.Reading.{positions_in, positions_of}
use Rattle.mds_geography.proofs.walk.positions_in.Goals as goal

pub returns-in-Pairs-clause-value : goal.returns-in-Pairs-clause-value
returns-in-Pairs-clause-value c =
    let read = c.args.read in
    let listed : positions_in read (node_view c.args.value.now) ≡ positions_of read (map pair_view c.deref.result.now) =
    ap (positions_in read) (ap node_view c.in-Pairs.is ∙ node-Pairs c.in-Pairs.pairs)
    ∙ ap (positions_of read) (entries-items_of (map pair_view c.in-Pairs.pairs.items))
    ∙ ap (λ ps. positions_of read (map pair_view ps)) (sym c.deref.ensures.value) in
    subst (Gives geo_cause (λ x. (x.0.items, x.1)) c.positions_of_pairs.result) (sym listed) c.positions_of_pairs.ensures.value
