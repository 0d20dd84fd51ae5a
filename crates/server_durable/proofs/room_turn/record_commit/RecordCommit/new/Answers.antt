use Rattle.server_durable.proofs.Owning.{held_owned}
use Rattle.server_durable.proofs.RoomLogging.{underway_new}
use Rattle.server_durable.proofs.room_turn.record_commit.RecordCommit.new.Goals as goal

pub invariant_of-result : goal.invariant_of-result
invariant_of-result g c =
    record {
      is_owned =
          held_owned (λ held. held.place) g.N.LogName.client_of c.args.records.own.client g.T.RecordPayload.text c.args.reserved
          c.titled_reservation.result c.titled_reservation.ensures c.requires.title c.requires.owned;
      underway =
          underway_new g.T.RecordPayload.reserved g.T.RecordPayload.own _ c.args.reserved c.args.records.own
          c.titled_reservation.ensures c.requires.reserved c.requires.own;
    }
