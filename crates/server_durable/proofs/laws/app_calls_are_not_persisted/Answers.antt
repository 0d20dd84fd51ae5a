use Rattle.server_durable.proofs.Unkept.{unkept}
use Rattle.server_durable.proofs.laws.app_calls_are_not_persisted.Goals as goal

pub returns : goal.returns
returns c configuration request reply some = unkept configuration request reply.status some
