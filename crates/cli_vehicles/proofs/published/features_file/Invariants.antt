use Rattle.std.proofs.Common.{◌≡◌, ◌++◌, map, drop, false}
use Rattle.mds_text.specs.View.{view}
use Rattle.cli_vehicles.specs.Published.{joined, feature_text}
use Rattle.cli_vehicles.proofs.published.features_file.Given as goal

-- what was written and what is left are the whole list
abbrev pub invariant-loop-geography : goal.invariant-loop-geography
invariant-loop-geography l = l.out.items ++ joined feature_text l.later (map view (drop l.geography-index l.geographies)) ≡ l.initial.out.items ++ joined feature_text false (map view l.geographies)
