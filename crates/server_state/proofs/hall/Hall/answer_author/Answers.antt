use Rattle.std.proofs.Common.{sym, subst, ap, ◌∙◌}
use Rattle.mds_request.specs.Call.{call_of}
use Rattle.server_state.specs.WholeRequest.{request_heard}
use Rattle.server_state.specs.Turn.{RoomReplies}
use Rattle.server_state.proofs.hall.Hall.answer_author.Goals as goal

pub carry_out-reply-requires : goal.carry_out-reply-requires
carry_out-reply-requires g c =
    ap (λ configuration. call_of configuration (request_heard c.args.heard)) (sym c.args.self.now.configured) ∙ c.requires

pub returns : goal.returns
returns g c =
    subst (λ configuration. RoomReplies configuration (request_heard c.args.heard) c.carry_out-reply.result.0) (sym c.args.self.now.configured) c.carry_out-reply.ensures.replies
