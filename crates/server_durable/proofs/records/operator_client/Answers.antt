use Rattle.std.specs.List.{slice_get}
use Rattle.mds_request.specs.Configuration.{configuration}
use Rattle.server_durable.proofs.Clients.{client_named}
use Rattle.server_durable.proofs.records.operator_client.Goals as goal

pub returns : goal.returns
returns c = client_named (slice_get (configuration c.args.config.now).operators c.args.place) c.id_at.result c.id_at.ensures
