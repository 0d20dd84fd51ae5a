use Rattle.std.proofs.Common.{◌∙◌, arith}
use Rattle.mds_text.specs.Fields.{id_of}
use Rattle.mds_json.specs.Node.{node_view}
use Rattle.mds_json.proofs.Lists.{read_turn}
use Rattle.mds_json.proofs.fields.ids_of.Goals as goal

pub loop-entry-preserved : goal.loop-entry-preserved
loop-entry-preserved c =
    read_turn node_view (id_of c.args.field) c.as_slice-entries.result.now c.loop-entry.entry-index c.entry-item.result c.loop-entry.found.items c.push.new.self.items c.in_ok-id_of.field-0 (omega arith) c.entry-item.is c.in_ok-id_of.ensures.value c.in_ok-push.ensures.items
    ∙ c.loop-entry.invariant
