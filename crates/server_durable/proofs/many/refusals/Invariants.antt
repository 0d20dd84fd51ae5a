use Rattle.std.proofs.Common.{◌≡◌, ◌≤◌, length, map, take}
use Rattle.std.specs.Vec.{vec_capacity}
use Rattle.mds_request.specs.Reply.{refused}
use Rattle.mds_request.specs.Request.{request_of}
use Rattle.server_durable.proofs.many.refusals.Given as goal

-- the requests so far are refused, and there is room for the refusals of all
abbrev pub invariant-loop-request : goal.invariant-loop-request
invariant-loop-request l = record {
  refusals : l.answers.items ≡ map (λ _. refused l.code) (map request_of (take l.request-index l.requests));
  each : length l.answers.items ≡ l.request-index;
  room : length l.requests ≤ vec_capacity l.answers;
}
