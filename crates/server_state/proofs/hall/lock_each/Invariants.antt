use Rattle.std.proofs.Common.{◌≡◌, ◌++◌, length, map}
use Rattle.std.specs.List.{range_with_len}
use Rattle.std.specs.Vec.Iter.{into_iter_items}
use Rattle.mds_desk.specs.Desk.{state_of}
use Rattle.server_state.specs.TurnList.{opened_as}
use Rattle.server_state.proofs.hall.lock_each.Given as goal

-- each desk so far is behind a lock, at its index, with an empty list
abbrev pub invariant-loop-desk : goal.invariant-loop-desk
invariant-loop-desk g l = record {
  in_order : map (λ desk. desk.place) l.locked.items ≡ range_with_len 0 (length l.yielded);
  opened : map (λ desk. desk.opening.front.seen.log) l.locked.items ≡ map (λ desk. opened_as (state_of desk)) l.yielded;
  all : l.yielded ++ into_iter_items l.desk-iterator ≡ l.fn.desks.items;
}
