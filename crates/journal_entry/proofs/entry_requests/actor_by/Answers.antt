use Rattle.std.proofs.Common.{ap, sym, ◌∙◌, position}
use Rattle.mds_request.specs.Configuration.{configuration, operator, operator_at}
use Rattle.journal_entry.proofs.Mapped.{position_map}
use Rattle.journal_entry.specs.Requests.{has_id, actor_by}
use Rattle.journal_entry.proofs.entry_requests.actor_by.Goals as goal

pub returns-in-Some : goal.returns-in-Some
returns-in-Some c =
    ap operator_at (c.in-Some.ensures ∙ sym (position_map (has_id c.in-Operator.id) operator c.operators.result.now) ∙ ap (position (has_id c.in-Operator.id)) c.operators.ensures.all)
    ∙ ap (actor_by (configuration c.args.config.now)) (sym c.in-Operator.is)

pub returns-in-None : goal.returns-in-None
returns-in-None c =
    ap operator_at (c.in-None.ensures ∙ sym (position_map (has_id c.in-Operator.id) operator c.operators.result.now) ∙ ap (position (has_id c.in-Operator.id)) c.operators.ensures.all)
    ∙ ap (actor_by (configuration c.args.config.now)) (sym c.in-Operator.is)
