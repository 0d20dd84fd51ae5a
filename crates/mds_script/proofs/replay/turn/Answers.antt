use Rattle.std.proofs.Common.{Some, refl, subst}
use Rattle.mds_request.specs.declared.code.Code.TheVariants.{BadLine}
use Rattle.mds_request.specs.Reply.{refused}
use Rattle.mds_script.specs.LineReading.{left, held, Finds}
use Rattle.mds_script.specs.Turning.{written_of}
use Rattle.mds_script.specs.Ends.{Writes}
use Rattle.mds_script.proofs.Progress.{turns_from, long_turned}
use Rattle.mds_script.proofs.replay.turn.Goals as goal

pub returns-in-Ok-TooLong-clause-turns : goal.returns-in-Ok-TooLong-clause-turns
returns-in-Ok-TooLong-clause-turns g c =
    let old = left c.args.reader.now (g.S.Source.remaining c.args.source.now) in
    let now = left c.next.new.self (g.S.Source.remaining c.next.new.source) in
    let written_old = g.W.Sink.contents c.args.sink.now in
    let written_new = g.W.Sink.contents c.answer.new.sink in
    turns_from g.M.Machine.step c.answer.result (Some (refused BadLine)) old now c.args.machine.now c.args.machine.now written_old written_new
    (long_turned g.M.Machine.step c.args.machine.now (held c.next.new.self) old now
    (subst (λ found. Finds found (held c.next.new.self) old now) c.in-Ok-TooLong.field-0-is c.in-Ok-TooLong.ensures.found) refl)
    (subst (λ reply. Writes written_old written_new c.answer.result (written_of (Some reply))) c.refusal.ensures c.answer.ensures.writes)
    c.answer.ensures.more c.answer.ensures.fault
