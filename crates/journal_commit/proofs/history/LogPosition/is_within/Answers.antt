use Rattle.std.proofs.Common.{ap, refl, subst, ℕ, List}
use mathlib.Core.List.{IsPrefix}
use Rattle.journal_commit.proofs.Fronts.{within}
use Rattle.journal_commit.proofs.history.LogPosition.is_within.Goals as goal

pub returns : goal.returns
returns g c =
    let both = c.learn.new.self.log in
    let mine = c.self.inside in
    let theirs = c.synced.inside in
    let this : IsPrefix mine.seen.log both = subst (λ (l : List (List ℕ)). IsPrefix l both) (ap (λ s. s.log) c.again-both.ensures) c.learn.ensures.2 in
    rw (← c.self.view_is, ← c.synced.view_is) (within mine.seen.log theirs.seen.log both mine.count theirs.count c.self.invariant.1 c.synced.invariant.1 this c.learn.ensures.3 _ refl)
