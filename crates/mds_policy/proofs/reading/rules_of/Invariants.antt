use Rattle.std.proofs.Common.{◌≡◌, map, drop}
use Rattle.mds_text.specs.Fields.{each}
use Rattle.mds_json.specs.Node.{node_view}
use Rattle.mds_text.proofs.Lists.{with_front}
use Rattle.mds_policy.specs.Policy.{rule_document}
use Rattle.mds_policy.specs.Reading.{rule_of}
use Rattle.mds_policy.proofs.reading.rules_of.Given as goal

-- what was read and what is left are the whole list
abbrev pub invariant-loop-entry : goal.invariant-loop-entry
invariant-loop-entry l = with_front (map rule_document l.rules.items) (each rule_of (map node_view (drop l.entry-index l.entries))) ≡ each rule_of (map node_view l.entries)
