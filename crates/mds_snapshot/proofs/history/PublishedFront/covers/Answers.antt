use Rattle.std.proofs.Common.{ap, refl, subst, List}
use mathlib.Core.List.{IsPrefix}
use Rattle.mds_catalog.specs.Publication.{Publication}
use Rattle.mds_snapshot.proofs.Fronts.{covers}
use Rattle.mds_snapshot.proofs.history.PublishedFront.covers.Goals as goal

pub returns : goal.returns
returns g c =
    let both = c.learn.new.self.log in
    let mine = c.self.inside.trail in
    let theirs = c.other.inside.trail in
    let this : IsPrefix mine.seen.log both = subst (λ (l : List Publication). IsPrefix l both) (ap (λ s. s.log) c.again-both.ensures) c.learn.ensures.2 in
    rw (← c.self.view_is, ← c.other.view_is) (covers mine.seen.log theirs.seen.log both mine.count theirs.count mine.counted theirs.counted this c.learn.ensures.3 _ refl)
