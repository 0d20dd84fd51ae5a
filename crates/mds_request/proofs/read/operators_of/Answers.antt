use Rattle.std.proofs.Common.{◌∙◌, arith}
use Rattle.mds_request.specs.Configuration.{operator, operator_of}
use Rattle.mds_request.proofs.Lists.{map-push}
use Rattle.mds_json.specs.Node.{node_view}
use Rattle.mds_json.proofs.Lists.{read_turn}
use Rattle.mds_request.proofs.read.operators_of.Goals as goal

pub loop-entry-preserved : goal.loop-entry-preserved
loop-entry-preserved c =
    record {
      count = omega (arith, c.in_ok-push.ensures.len);
      whole =
          read_turn node_view operator_of c.args.entries.now c.loop-entry.entry-index c.entry-item.result _ _ (operator c.in_ok-operator_of.field-0) (omega arith) c.entry-item.is c.in_ok-operator_of.ensures (map-push operator _ _ _ c.in_ok-push.ensures.items)
          ∙ c.loop-entry.invariant.whole;
    }
