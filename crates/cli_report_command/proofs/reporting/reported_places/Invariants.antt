use Rattle.std.proofs.Common.{◌≡◌, ◌<◌, ◌++◌, length, map, drop}
use Rattle.std.specs.Prelude.{All}
use Rattle.std.specs.List.{enumerate_from, filter}
use Rattle.mds_request.specs.Configuration.{operator}
use Rattle.cli_report_command.specs.Reports.{is_reported, reported_places}
use Rattle.cli_report_command.proofs.reporting.reported_places.Given as goal

-- the places so far stand in front of those that are left
abbrev pub invariant-loop-place : goal.invariant-loop-place
invariant-loop-place l = record {
  told : l.places.items ++ map (λ e. e.0) (filter (λ e. is_reported l.ids e.1) (enumerate_from l.place (map operator (drop l.place l.operators))))
      ≡ reported_places l.ids (map operator l.operators);
  within : All (λ place. place < length l.operators) l.places.items;
}
