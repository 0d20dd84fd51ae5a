use mathlib.Core.List.{IsPrefix}
use Rattle.std.proofs.Common.{◌≡◌, ◌≤◌, ◌-◌, length, map, take}
use Rattle.mds_request.specs.Request.{request_of}
use Rattle.mds_desk.specs.Desk.{state_of}
use Rattle.server_state.specs.Openings.{openings_of}
use Rattle.server_durable.proofs.ListedRuns.{AreListed}
use Rattle.server_durable.proofs.Reports.{Reached}
use Rattle.server_durable.proofs.durable_hall.DurableHall.carry_out_all.Given as goal

-- the requests so far are answered, at this operator's desk
abbrev pub invariant-chunks : goal.invariant-chunks
invariant-chunks g l = record {
  reached : Reached g.K.HallName.configuration l.fn.place (map request_of (take l.done l.requests)) l.replies.answers.items l.replies.stamp (state_of l.desk.desk);
  listed : AreListed g.K.HallName.configuration (openings_of l.fn.self.hall) g.N.LogName.client_of l.fn.place (map request_of (take l.done l.requests)) l.replies.answers.items l.replies.stamp
      l.desk.is_lost l.desk.turns.front.seen.log;
  place : l.desk.place ≡ l.fn.place;
  owner : l.records.place ≡ l.fn.place;
  front : IsPrefix l.records.own.texts l.replies.stamp;
  within : l.done ≤ length l.requests;
}

abbrev pub decreases-chunks : goal.decreases-chunks
decreases-chunks g l = length l.requests - l.done
