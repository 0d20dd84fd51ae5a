use Rattle.std.proofs.Common.{ap, sym, ◌∙◌, bytes_eq, position}
use Rattle.mds_request.specs.Configuration.{Operator, operator}
use Rattle.server_durable.proofs.OwnBodies.{position-map}
use Rattle.server_durable.proofs.fleet_views.place_of.Goals as goal

pub returns-clause-place : goal.returns-clause-place
returns-clause-place c =
    c.place_among.ensures.place ∙ sym (position-map (λ (o : Operator). bytes_eq c.args.id o.id) operator c.operators.result.now)
    ∙ ap (position (λ (o : Operator). bytes_eq c.args.id o.id)) c.operators.ensures.all
