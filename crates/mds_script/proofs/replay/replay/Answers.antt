use Rattle.std.proofs.Common.{◌≡◌, ◌∙◌, ap, subst}
use Rattle.std.specs.Io.KnownBytes.{prepend_known}
use Rattle.std.proofs.lemmas.Result.{on_ok_weaker, on_err_weaker}
use Rattle.mds_script.specs.LineReading.{left}
use Rattle.mds_script.specs.Turning.{Begins}
use Rattle.mds_script.proofs.Whole.{nothing_ahead, answered_whole, started_whole}
use Rattle.mds_script.proofs.replay.replay.Goals as goal

pub returns-clause-answered : goal.returns-clause-answered
returns-clause-answered g c =
    let remaining = g.S.Source.remaining c.args.source.now in
    let mid = left c.begin.new.reader (g.S.Source.remaining c.begin.new.source) in
    let fresh : left c.in_ok-reader.reader remaining ≡ remaining = ap (λ xs. prepend_known xs remaining) c.in_ok-reader.ensures.ahead ∙ nothing_ahead remaining in
    let begun = subst (λ old. Begins g.M.Machine.begins old mid c.in_ok-machine.machine) fresh c.in_ok-machine.ensures.begins in
    on_ok_weaker c.answer_all.result
    (answered_whole g.M.Machine.step g.M.Machine.begins remaining mid c.in_ok-machine.machine (g.W.Sink.contents c.args.sink.now) (g.W.Sink.contents c.answer_all.new.sink) begun)
    c.answer_all.ensures.all

pub returns-clause-started : goal.returns-clause-started
returns-clause-started g c =
    let remaining = g.S.Source.remaining c.args.source.now in
    let mid = left c.begin.new.reader (g.S.Source.remaining c.begin.new.source) in
    let fresh : left c.in_ok-reader.reader remaining ≡ remaining = ap (λ xs. prepend_known xs remaining) c.in_ok-reader.ensures.ahead ∙ nothing_ahead remaining in
    let begun = subst (λ old. Begins g.M.Machine.begins old mid c.in_ok-machine.machine) fresh c.in_ok-machine.ensures.begins in
    on_err_weaker c.answer_all.result
    (started_whole g.M.Machine.step g.M.Machine.begins remaining mid c.in_ok-machine.machine (g.W.Sink.contents c.args.sink.now) (g.W.Sink.contents c.answer_all.new.sink) begun)
    c.answer_all.ensures.some
