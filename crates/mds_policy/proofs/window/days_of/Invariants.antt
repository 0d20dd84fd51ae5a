use Rattle.std.proofs.Common.{◌≡◌, map, drop}
use Rattle.mds_text.specs.Fields.{each}
use Rattle.mds_json.specs.Node.{node_view}
use Rattle.mds_text.specs.declared.field.Field.TheVariants.{Days}
use Rattle.mds_text.proofs.Lists.{with_front}
use Rattle.mds_policy.specs.Reading.{day_of}
use Rattle.mds_policy.proofs.window.days_of.Given as goal

-- what was read and what is left are the whole list
abbrev pub invariant-loop-entry : goal.invariant-loop-entry
invariant-loop-entry l = with_front l.days.items (each (day_of Days) (map node_view (drop l.entry-index l.entries))) ≡ each (day_of Days) (map node_view l.entries)
