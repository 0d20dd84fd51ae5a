use Rattle.std.proofs.Math.Logic.{∥∥₁_map}
use Rattle.mds_desk.specs.Desk.{state_of}
use Rattle.mds_request.specs.declared.config.Actor.TheVariants.{Operator}
use Rattle.server_admission.specs.Actor.{index_of}
use Rattle.server_durable.proofs.Logging.{whole_logged}
use Rattle.server_durable.proofs.desk_records.DeskRecords.are_whole.Goals as goal

pub has_turns-requires : goal.has_turns-requires
has_turns-requires g c = ∥∥₁_map c.requires (λ are. (state_of c.args.ended.now.desk, are))

pub returns-in-Some : goal.returns-in-Some
returns-in-Some g c =
    λ same.
    let mine = c.args.self.now in
    whole_logged g.K.HallName.configuration g.N.LogName.client_of mine.own (index_of (Operator mine.place)) c.args.ended.now.turns.front.seen.log
    c.in-Some.position c.args.all.now (c.has_turns.ensures c.if-not-has_turns.false) mine.numbered c.in-Some.ensures (c.is_of.ensures.same same)
