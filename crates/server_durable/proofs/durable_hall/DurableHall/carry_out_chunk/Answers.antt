use Rattle.std.proofs.Common.{ℕ, map, sym, subst}
use Rattle.mds_request.specs.Request.{request_of}
use Rattle.server_durable.specs.Many.{AreAskedBy}
use Rattle.server_durable.proofs.durable_hall.DurableHall.carry_out_chunk.Goals as goal

pub carry_out_reserved-requires-clause-asked : goal.carry_out_reserved-requires-clause-asked
carry_out_reserved-requires-clause-asked g c =
    subst (λ (p : ℕ). AreAskedBy g.K.HallName.configuration p (map request_of c.args.requests.now)) (sym c.requires.desk) c.requires.asked
