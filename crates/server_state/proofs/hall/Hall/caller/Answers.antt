use Rattle.std.proofs.Common.{Ok, Err, ap, sym, ◌∙◌}
use Rattle.mds_request.specs.declared.call.Call.TheVariants as call
use Rattle.server_state.proofs.Resolving.{caller_in, nobody_in}
use Rattle.server_state.proofs.hall.Hall.caller.Goals as goal

pub returns-in-Author : goal.returns-in-Author
returns-in-Author g c =
    sym (caller_in g.K.HallName.configuration c.args.parts.now (call.Author c.in-Author.field-0) (sym c.requires ∙ c.in-Ok.is ∙ ap Ok c.in-Author.is))

pub returns-in-Operator : goal.returns-in-Operator
returns-in-Operator g c =
    sym (caller_in g.K.HallName.configuration c.args.parts.now (call.Operator c.in-Operator.place c.in-Operator.field-1) (sym c.requires ∙ c.in-Ok.is ∙ ap Ok c.in-Operator.is))

pub returns-in-Token : goal.returns-in-Token
returns-in-Token g c =
    sym (nobody_in g.K.HallName.configuration c.args.parts.now (sym c.requires ∙ c.in-Err.is ∙ ap Err c.in-Token.is))
