use Rattle.std.proofs.Common.{map}
use Rattle.journal_entry.specs.Entries.{entry_of}
use Rattle.mds_request.specs.Configuration.{configuration, operator}
use Rattle.mds_request.specs.Request.{request_of}
use Rattle.journal_samples.specs.Held.{standing_of}
use Rattle.server_past.proofs.Replied.{own_is}
use Rattle.server_past.proofs.replies.own_reply.Goals as goal

pub returns : goal.returns
returns c =
    own_is (configuration c.args.config.now) (map entry_of c.args.entries.now) c.args.view c.args.at c.args.place (operator c.operator_at.result.now)
    (standing_of c.in_ok-replay.replay.standing) c.call_for.result (request_of c.own_request-request.result) c.reply.result c.operator_at.ensures
    c.in_ok-replay.ensures c.call_for.ensures c.own_request-request.ensures c.reply.ensures
