use Rattle.std.proofs.Common.{◌≡◌, ◌≤◌, length, map, drop}
use Rattle.server_app.proofs.Ordered.{all_placed, own_ids}
use Rattle.server_app.proofs.draft_list.ids_of.Given as goal

-- those of the drafts from here on, each in its place
abbrev pub invariant-loop-left : goal.invariant-loop-left
invariant-loop-left l = record {
  within : l.left ≤ length l.drafts;
  placed : map (λ e. e.0) l.ids.entries ≡ all_placed (own_ids l.kind (drop l.left l.drafts));
}

abbrev pub decreases-loop-left : goal.decreases-loop-left
decreases-loop-left l = l.left
