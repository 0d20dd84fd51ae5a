use Rattle.std.proofs.Common.{◌≡◌, ◌≤◌, ◌-◌, length, map}
use Rattle.std.specs.Vec.{vec_capacity}
use Rattle.server_durable.specs.FleetViews.{AreOwnBodies}
use Rattle.server_durable.proofs.durable_hall.DurableHall.own_answers.Given as goal

-- the desks so far have answered, and there is room for the answers of all
abbrev pub invariant-loop-at : goal.invariant-loop-at
invariant-loop-at g l = record {
  each : AreOwnBodies g.K.HallName.configuration l.at 0 (map (λ answer. answer.body) l.answers.items);
  some : length l.answers.items ≤ l.operators;
  all : l.operators ≡ length g.K.HallName.configuration.operators;
  room : l.operators ≤ vec_capacity l.answers;
}

abbrev pub decreases-loop-at : goal.decreases-loop-at
decreases-loop-at g l = l.operators - length l.answers.items
