use Rattle.std.proofs.Common.{ap}
use Rattle.mds_append_list.proofs.Fronts.{front_of, shorter}
use Rattle.mds_append_list.proofs.list.ListFront.begins.Goals as goal

pub returns-clause-begins : goal.returns-clause-begins
returns-clause-begins g c = λ is.
    let mine = c.args.self.now in
    let theirs = c.args.other.now in
    front_of mine.seen.log theirs.seen.log _ _ mine.count theirs.count mine.counted theirs.counted (ap (λ s. s.log) c.again-both.ensures)
    c.learn.ensures.2 c.learn.ensures.3 is

pub returns-clause-shorter : goal.returns-clause-shorter
returns-clause-shorter g c = λ is.
    let mine = c.args.self.now in
    let theirs = c.args.other.now in
    shorter mine.seen.log theirs.seen.log mine.count theirs.count mine.counted theirs.counted is
