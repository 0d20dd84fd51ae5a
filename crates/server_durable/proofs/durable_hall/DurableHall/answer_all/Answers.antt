use Rattle.std.proofs.Common.{◌<◌, length, sym, subst}
use Rattle.mds_request.specs.Configuration.{Configuration}
use Rattle.server_durable.proofs.durable_hall.DurableHall.answer_all.Goals as goal

pub desk_at-requires : goal.desk_at-requires
desk_at-requires g c =
    subst (λ (own : Configuration). c.args.place < length own.operators) (sym c.args.self.now.hall.configured) c.requires.place
