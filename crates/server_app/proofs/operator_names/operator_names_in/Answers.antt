use Rattle.std.proofs.Common.{◌∙◌, map, ap, arith}
use Rattle.std.proofs.lemmas.List.{map-append}
use Rattle.mds_json.specs.Node.{node_view}
use Rattle.mds_json.proofs.Lists.{read_turn}
use Rattle.server_app.specs.OperatorNames.{badge_of, badge_view}
use Rattle.server_app.proofs.operator_names.operator_names_in.Goals as goal

pub loop-entry-preserved : goal.loop-entry-preserved
loop-entry-preserved c =
    read_turn node_view badge_of c.args.entries.now c.loop-entry.entry-index c.entry-item.result _ _ (badge_view c.in_ok-operator_name_of.field-0) (omega arith) c.entry-item.is c.in_ok-operator_name_of.ensures (ap (λ bs. map badge_view bs) c.in_ok-push.ensures.items ∙ map-append badge_view _ _)
    ∙ c.loop-entry.invariant
