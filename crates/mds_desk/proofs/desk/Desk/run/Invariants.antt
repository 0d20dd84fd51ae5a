use Rattle.std.proofs.Common.{◌≡◌, ◌≤◌, map, take, length}
use Rattle.std.specs.Vec.{vec_capacity}
use Rattle.mds_request.specs.Request.{request_of}
use Rattle.mds_desk.specs.Desk.{state_of, TakesRun}
use Rattle.mds_desk.proofs.desk.Desk.run.Given as goal

-- the requests so far are answered, and there is room for the replies to all
abbrev pub invariant-loop-request : goal.invariant-loop-request
invariant-loop-request g l = record {
  run : TakesRun (state_of l.fn.self) (map request_of (take l.request-index l.requests)) l.answers.items (state_of l.self);
  each : length l.answers.items ≡ l.request-index;
  room : length l.requests ≤ vec_capacity l.answers;
}
