use Rattle.server_durable.proofs.ReadConfigurations.{read_configurations_tell_clients}
use Rattle.server_durable.proofs.laws.read_configurations_tell_clients.Goals as goal

pub returns : goal.returns
returns c = read_configurations_tell_clients
