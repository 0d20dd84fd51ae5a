use Rattle.futures.specs.Task.{Keeps}
use Rattle.server_http.specs.Arrives.{LeavesArrivals}
use Rattle.server_http.proofs.body_reader.BodyReaderFuture.poll.Given as goal

abbrev pub invariant-loop : goal.invariant-loop
invariant-loop g l = record { kept : Keeps l.initial.cx l.cx; leaves : LeavesArrivals l.fn.self l.self }
