use Rattle.std.proofs.Common.{◌≡◌, ◌∙◌, Ok, arith, subst}
use Rattle.mds_json.specs.Node.{node_view}
use Rattle.mds_config_error.specs.Diagnosis.{says_at, operator_of}
use Rattle.mds_config_error.specs.Relations.{operator}
use Rattle.mds_config_error.proofs.Turns.{map_push, read_on}
use Rattle.mds_config_error.proofs.operators.operators_of.Goals as goal

pub loop-entry-preserved : goal.loop-entry-preserved
loop-entry-preserved c =
    let one = operator c.in_ok-operator_at.field-0 in
    record {
      count = omega (arith, c.in_ok-push.ensures.len, c.loop-entry.invariant.count);
      whole =
          read_on node_view c.loop-entry.entry-index c.args.entries.now c.loop-entry.entry-index c.entry-item.result _ _ one (omega arith) c.entry-item.is
          (subst (λ n. says_at n (operator_of (node_view c.entry-item.result)) ≡ Ok one) (c.len-place.ensures ∙ c.loop-entry.invariant.count) c.in_ok-operator_at.ensures)
          (map_push operator _ _ _ c.in_ok-push.ensures.items)
          ∙ c.loop-entry.invariant.whole;
    }
