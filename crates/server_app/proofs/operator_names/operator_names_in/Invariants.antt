use Rattle.std.proofs.Common.{◌≡◌, map, drop}
use Rattle.mds_text.specs.Fields.{each}
use Rattle.mds_json.specs.Node.{node_view}
use Rattle.mds_text.proofs.Lists.{with_front}
use Rattle.server_app.specs.OperatorNames.{badge_of, badge_view}
use Rattle.server_app.proofs.operator_names.operator_names_in.Given as goal

-- what was read and what is left are the whole list
abbrev pub invariant-loop-entry : goal.invariant-loop-entry
invariant-loop-entry l = with_front (map badge_view l.badges.items) (each badge_of (map node_view (drop l.entry-index l.entries))) ≡ each badge_of (map node_view l.entries)
