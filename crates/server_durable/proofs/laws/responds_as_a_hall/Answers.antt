use Rattle.server_durable.proofs.Responses.{as_a_hall}
use Rattle.server_durable.proofs.laws.responds_as_a_hall.Goals as goal

pub returns : goal.returns
returns c configuration openings badges parts arrived at stamp response plain answers =
    as_a_hall configuration openings badges parts arrived stamp response at (λ moment. plain) answers
