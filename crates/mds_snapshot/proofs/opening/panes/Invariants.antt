use Rattle.std.proofs.Common.{◌≡◌, [], replicate, vec_capacity}
use Rattle.mds_snapshot.proofs.opening.panes.Given as goal

-- one pane for each turn so far, and capacity for all
abbrev pub invariant-loop : goal.invariant-loop
invariant-loop g l = (l.panes.items ≡ replicate l.counter []) × (vec_capacity l.panes ≡ l.n) × (l.publisher ≡ l.initial.publisher)
