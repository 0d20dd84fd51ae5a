use Rattle.std.proofs.Common.{◌≡◌, map, take}
use Rattle.mds_text.specs.View.{view}
use Rattle.server_app.specs.OperatorNames.{badge_view}
use Rattle.server_app.specs.Whoami.{badge_json}
use Rattle.server_app.proofs.identity.operator_name_trees.Given as goal

abbrev pub invariant-loop-badge : goal.invariant-loop-badge
invariant-loop-badge l = map view l.trees.items ≡ map badge_json (map badge_view (take l.badge-index l.badges))
