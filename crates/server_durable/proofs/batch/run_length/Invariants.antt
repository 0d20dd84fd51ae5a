use Rattle.std.proofs.Common.{◌≡◌, ◌<◌, take}
use Rattle.server_durable.specs.Chunks.{AreAlike}
use Rattle.server_durable.specs.declared.batch.TheConstants.{CHUNK}
use Rattle.server_durable.proofs.batch.run_length.Given as goal

-- all requests so far are counted, and are alike
abbrev pub invariant-loop-request : goal.invariant-loop-request
invariant-loop-request l = record {
  counted : l.count ≡ l.request-index;
  few : l.count < CHUNK;
  alike : AreAlike l.may_be_reports (take l.request-index l.requests);
}
