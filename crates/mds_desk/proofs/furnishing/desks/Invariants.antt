use Rattle.std.proofs.Common.{◌≡◌, ◌+◌, ◌≤◌, map, length}
use Rattle.std.specs.Vec.{vec_capacity}
use Rattle.std.specs.Vec.Iter.{into_iter_items}
use Rattle.std.specs.List.{range_with_len}
use Rattle.mds_request.specs.Configuration.{configuration}
use Rattle.mds_desk.specs.Desk.{state_of, new_desk}
use Rattle.mds_desk.proofs.furnishing.desks.Given as goal

-- a desk is made with each pane so far, and there is room for all
abbrev pub invariant-loop-pane : goal.invariant-loop-pane
invariant-loop-pane g l = record {
  made : map state_of l.desks.items ≡ map (new_desk (configuration l.fn.config.value)) (range_with_len 0 (length l.yielded));
  each : length l.desks.items ≡ length l.yielded;
  room : length l.fn.panes.items ≤ vec_capacity l.desks;
  count : length l.yielded + length (into_iter_items l.pane-iterator) ≡ length l.fn.panes.items;
}
