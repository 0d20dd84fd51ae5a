use Rattle.std.proofs.Common.{◌≡◌, ◌++◌, map, drop}
use Rattle.std.specs.List.{filter_map}
use Rattle.mds_text.specs.View.{view}
use Rattle.cli_documents.specs.Members.{as_id}
use Rattle.cli_documents.proofs.drafting.ids_in.Given as goal

-- the identifiers so far and those of what is left
abbrev pub invariant-loop-value : goal.invariant-loop-value
invariant-loop-value l = l.ids.items ++ filter_map as_id (map view (drop l.value-index l.values)) ≡ filter_map as_id (map view l.values)
