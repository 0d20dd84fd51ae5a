use Rattle.std.proofs.Common.{◌∙◌}
use Rattle.std.proofs.lemmas.Bool.{MatchBool-at_false}
use Rattle.mds_script.specs.LineReading.{held, passed, left}
use Rattle.mds_script.proofs.Gathered.{closes, closes_last}
use Rattle.mds_script.proofs.Reading.{fails_from, gathered_advances}
use Rattle.mds_script.proofs.Steps.{after_no_feed, after_refill, line_found, line_advances, end_found, end_advances, end_nearer}
use Rattle.mds_script.proofs.lines.LineReader.next.Goals as goal

pub returns-then-take_line-clause-found : goal.returns-then-take_line-clause-found
returns-then-take_line-clause-found g c =
    let r = c.pieces.self in
    line_found (left c.args.self.now (g.S.Source.remaining c.args.source.now)) (passed c.args.self.now)
    r c.take_line.new.self c.end_line.new.self (g.S.Source.remaining c.pieces.source) c.end_line.result
    c.pieces.invariant.gathered c.if-take_line.ensures.takes (closes (held c.take_line.new.self) (held c.end_line.new.self) c.end_line.result c.end_line.ensures.found c.end_line.ensures.line) (record { ahead_same = c.end_line.ensures.ahead; passed_same = c.end_line.ensures.passed })

pub returns-then-take_line-clause-advances : goal.returns-then-take_line-clause-advances
returns-then-take_line-clause-advances g c =
    line_advances (left c.args.self.now (g.S.Source.remaining c.args.source.now)) (passed c.args.self.now)
    c.pieces.self c.take_line.new.self c.end_line.new.self (g.S.Source.remaining c.pieces.source)
    c.pieces.invariant.gathered c.if-take_line.ensures.takes (record { ahead_same = c.end_line.ensures.ahead; passed_same = c.end_line.ensures.passed })

pub pieces-preserved : goal.pieces-preserved
pieces-preserved g c =
    let old = left c.args.self.now (g.S.Source.remaining c.args.source.now) in
    let passed_old = passed c.args.self.now in
    let remaining = g.S.Source.remaining c.pieces.source in
    record {
      gathered = after_refill old passed_old c.take_line.new.self c.refill.new.self remaining (g.S.Source.remaining c.refill.new.source)
          (after_no_feed old passed_old c.pieces.self c.take_line.new.self remaining c.pieces.invariant.gathered c.if-take_line.ensures.takes)
          c.in-Ok-true.ensures.left c.in-Ok-true.ensures.kept c.in-Ok-true.ensures.passed;
      unfailed = c.in-Ok-true.ensures.unfailed ∙ c.pieces.invariant.unfailed;
    }

pub returns-in-Ok-false-clause-found : goal.returns-in-Ok-false-clause-found
returns-in-Ok-false-clause-found g c =
    let old = left c.args.self.now (g.S.Source.remaining c.args.source.now) in
    let passed_old = passed c.args.self.now in
    let remaining = g.S.Source.remaining c.pieces.source in
    let over = MatchBool-at_false _ _ c.in-Ok-false.field-0-test c.in-Ok-false.ensures.more in
    end_found old passed_old c.refill.new.self c.end_input.new.self (g.S.Source.remaining c.refill.new.source) c.end_input.result
    (after_refill old passed_old c.take_line.new.self c.refill.new.self remaining (g.S.Source.remaining c.refill.new.source)
    (after_no_feed old passed_old c.pieces.self c.take_line.new.self remaining c.pieces.invariant.gathered c.if-take_line.ensures.takes)
    c.in-Ok-false.ensures.left c.in-Ok-false.ensures.kept c.in-Ok-false.ensures.passed)
    over.0 over.1 (closes_last (held c.refill.new.self) (held c.end_input.new.self) c.end_input.result c.end_input.ensures.found c.end_input.ensures.held) (record { ahead_same = c.end_input.ensures.ahead; passed_same = c.end_input.ensures.passed })

pub returns-in-Ok-false-clause-advances : goal.returns-in-Ok-false-clause-advances
returns-in-Ok-false-clause-advances g c =
    let old = left c.args.self.now (g.S.Source.remaining c.args.source.now) in
    let passed_old = passed c.args.self.now in
    let remaining = g.S.Source.remaining c.pieces.source in
    end_advances old passed_old c.refill.new.self c.end_input.new.self (g.S.Source.remaining c.refill.new.source)
    (after_refill old passed_old c.take_line.new.self c.refill.new.self remaining (g.S.Source.remaining c.refill.new.source)
    (after_no_feed old passed_old c.pieces.self c.take_line.new.self remaining c.pieces.invariant.gathered c.if-take_line.ensures.takes)
    c.in-Ok-false.ensures.left c.in-Ok-false.ensures.kept c.in-Ok-false.ensures.passed)
    (record { ahead_same = c.end_input.ensures.ahead; passed_same = c.end_input.ensures.passed })

pub returns-in-Ok-false-clause-nearer : goal.returns-in-Ok-false-clause-nearer
returns-in-Ok-false-clause-nearer g c =
    let old = left c.args.self.now (g.S.Source.remaining c.args.source.now) in
    let passed_old = passed c.args.self.now in
    let remaining = g.S.Source.remaining c.pieces.source in
    end_nearer old passed_old c.refill.new.self c.end_input.new.self (g.S.Source.remaining c.refill.new.source) c.end_input.result
    (after_refill old passed_old c.take_line.new.self c.refill.new.self remaining (g.S.Source.remaining c.refill.new.source)
    (after_no_feed old passed_old c.pieces.self c.take_line.new.self remaining c.pieces.invariant.gathered c.if-take_line.ensures.takes)
    c.in-Ok-false.ensures.left c.in-Ok-false.ensures.kept c.in-Ok-false.ensures.passed)
    (closes_last (held c.refill.new.self) (held c.end_input.new.self) c.end_input.result c.end_input.ensures.found c.end_input.ensures.held) (record { ahead_same = c.end_input.ensures.ahead; passed_same = c.end_input.ensures.passed })

pub returns-in-Err-clause-failed : goal.returns-in-Err-clause-failed
returns-in-Err-clause-failed g c =
    let old = left c.args.self.now (g.S.Source.remaining c.args.source.now) in
    let passed_old = passed c.args.self.now in
    let remaining = g.S.Source.remaining c.pieces.source in
    fails_from old (left c.take_line.new.self remaining) passed_old (passed c.take_line.new.self)
    (g.S.Source.failures c.args.source.now) (g.S.Source.failures c.pieces.source) (g.S.Source.failures c.refill.new.source)
    (gathered_advances (after_no_feed old passed_old c.pieces.self c.take_line.new.self remaining c.pieces.invariant.gathered c.if-take_line.ensures.takes))
    c.pieces.invariant.unfailed c.in-Err.ensures.failed
