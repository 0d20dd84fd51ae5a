use Rattle.std.proofs.Common.{◌≡◌, map, drop}
use Rattle.mds_text.specs.Fields.{each, id_of}
use Rattle.mds_json.specs.Node.{node_view}
use Rattle.mds_text.proofs.Lists.{with_front}
use Rattle.mds_json.proofs.fields.ids_of.Given as goal

-- what was read and what is left are the whole list
abbrev pub invariant-loop-entry : goal.invariant-loop-entry
invariant-loop-entry l = with_front l.found.items (each (id_of l.field) (map node_view (drop l.entry-index l.entries))) ≡ each (id_of l.field) (map node_view l.entries)
