use Rattle.std.proofs.Common.{◌≡◌, ◌≤◌, length, map, take}
use Rattle.std.specs.List.{AllByRecursion}
use Rattle.std.specs.Vec.{vec_capacity}
use Rattle.mds_request.specs.Request.{request_of}
use Rattle.server_durable.specs.Records.{IsRecordable, record_by}
use Rattle.server_durable.proofs.many.record_texts.Given as goal

-- the requests so far have their records, and there is room for those of all
abbrev pub invariant-loop-request : goal.invariant-loop-request
invariant-loop-request l = record {
  records : map (λ text. text.items) l.texts.items ≡ map (record_by l.fn.client) (map request_of (take l.request-index l.requests));
  within : AllByRecursion IsRecordable (map request_of (take l.request-index l.requests));
  each : length l.texts.items ≡ l.request-index;
  room : length l.requests ≤ vec_capacity l.texts;
}
