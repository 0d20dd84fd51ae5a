use Rattle.std.proofs.Common.{◌≡◌, ◌++◌, map, take}
use Rattle.mds_text.specs.View.{view}
use Rattle.server_app.specs.DraftList.{listed_json}
use Rattle.server_app.proofs.draft_list.push_drafts.Given as goal

abbrev pub invariant-loop-id : goal.invariant-loop-id
invariant-loop-id l = map view l.trees.items ≡ map view l.fn.trees.items ++ map (listed_json l.kind) (take l.id-index l.ids)
