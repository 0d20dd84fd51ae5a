use Rattle.std.proofs.Common.{◌≡◌, ◌++◌, map, drop}
use Rattle.std.specs.List.{filter_map}
use Rattle.mds_text.specs.View.{view}
use Rattle.cli_documents.specs.Documents.{unjudged_id}
use Rattle.cli_documents.proofs.bounds.unjudged_rule_ids.Given as goal

-- the rules so far and those of what is left
abbrev pub invariant-loop-rule : goal.invariant-loop-rule
invariant-loop-rule l =
    map (λ id. id.now) l.ids.items ++ filter_map unjudged_id (map view (drop l.rule-index l.rule-items)) ≡ filter_map unjudged_id (map view l.rule-items)
