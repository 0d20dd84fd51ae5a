use Rattle.std.proofs.Common.{Option, Some, rules}
use Rattle.mds_request.proofs.Actors.{actor_is}
use Rattle.mds_request.proofs.config.Config.actor.Goals as goal

pub returns-in-Some : goal.returns-in-Some
returns-in-Some c =
    actor_is c.args.self.now c.args.token.now _ _ _ (Some c.in-Some.place) c.as_bytes.ensures.value c.deref.ensures.value (search rules) c.if-eq.ensures c.in-Some.ensures

pub returns-in-None : goal.returns-in-None
returns-in-None c =
    actor_is c.args.self.now c.args.token.now _ _ _ Option.None c.as_bytes.ensures.value c.deref.ensures.value (search rules) c.if-eq.ensures c.in-None.ensures
