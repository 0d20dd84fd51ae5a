use Rattle.std.proofs.Common.{◌≡◌, ◌==◌, ◌≤◌, length, map, take}
use Rattle.std.specs.Vec.{vec_capacity}
use Rattle.server_durable.proofs.many.push_flags.Given as goal

-- the flags of the answers so far are set, and there is room for all
abbrev pub invariant-loop-answer : goal.invariant-loop-answer
invariant-loop-answer l = record {
  noted : l.flags.items ≡ map (λ answer. answer.status == 200) (take l.answer-index l.answers);
  each : length l.flags.items ≡ l.answer-index;
  room : length l.answers ≤ vec_capacity l.flags;
}
