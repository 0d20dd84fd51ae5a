use Rattle.std.proofs.Common.{Ok, [], ◌++◌, refl, subst, ◌∙◌}
use Rattle.mds_script.specs.LineReading.{left, passed}
use Rattle.mds_script.specs.Turning.{Turns, written_of}
use Rattle.mds_script.proofs.Reading.{advances_none, advances_more}
use Rattle.mds_script.proofs.Written.{appends_none, appends_more}
use Rattle.mds_script.proofs.Progress.{ran_none, ran_turn, answers_some}
use Rattle.mds_script.proofs.replay.answer_all.Goals as goal

pub turns-init : goal.turns-init
turns-init g c =
    let old = left c.args.reader.now (g.S.Source.remaining c.args.source.now) in
    record {
      progress = ([], ran_none g.M.Machine.step old c.args.machine.now, appends_none (g.W.Sink.contents c.args.sink.now));
      advances = advances_none (passed c.args.reader.now) old;
      read_on = refl;
      written = refl;
    }

pub turns-preserved : goal.turns-preserved
turns-preserved g c =
    let step = g.M.Machine.step in
    let old = left c.args.reader.now (g.S.Source.remaining c.args.source.now) in
    let mid = left c.turns.reader (g.S.Source.remaining c.turns.source) in
    let now = left c.turn.new.reader (g.S.Source.remaining c.turn.new.source) in
    let contents = g.W.Sink.contents in
    let p = c.turns.invariant.progress in
    let t = subst (λ more. Turns step (Ok more) mid now c.turns.machine c.turn.new.machine (contents c.turns.sink) (contents c.turn.new.sink)) c.in-Ok-true.field-0-test c.in-Ok-true.ensures.turns in
    record {
      progress = (p.0 ++ written_of t.0, ran_turn step old mid now c.args.machine.now c.turns.machine c.turn.new.machine p.0 t.0 p.1 t.1, appends_more (contents c.args.sink.now) (contents c.turns.sink) (contents c.turn.new.sink) p.0 (written_of t.0) p.2 t.2);
      advances = advances_more (passed c.args.reader.now) (passed c.turns.reader) (passed c.turn.new.reader) old mid now c.turns.invariant.advances c.in-Ok-true.ensures.advances;
      read_on = c.in-Ok-true.ensures.read_on ∙ c.turns.invariant.read_on;
      written = c.in-Ok-true.ensures.written ∙ c.turns.invariant.written;
    }

pub returns-in-Err-clause-some : goal.returns-in-Err-clause-some
returns-in-Err-clause-some g c =
    let old = left c.args.reader.now (g.S.Source.remaining c.args.source.now) in
    let mid = left c.turns.reader (g.S.Source.remaining c.turns.source) in
    let now = left c.turn.new.reader (g.S.Source.remaining c.turn.new.source) in
    let contents = g.W.Sink.contents in
    let p = c.turns.invariant.progress in
    answers_some g.M.Machine.step g.met.M.Machine.total c.in-Err.fault old mid now c.args.machine.now c.turns.machine c.turn.new.machine
    (contents c.args.sink.now) (contents c.turns.sink) (contents c.turn.new.sink) p.0 p.1 p.2 c.in-Err.ensures.turns
