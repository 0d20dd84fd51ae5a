use Rattle.std.proofs.Common.{ap, subst, ℕ, List}
use mathlib.Core.List.{IsPrefix}
use Rattle.journal_commit.proofs.Fronts.{one_front}
use Rattle.journal_commit.proofs.history.LogPosition.is_of.Goals as goal

pub returns-clause-same : goal.returns-clause-same
returns-clause-same g c = λ is.
    let both = c.learn.new.self.log in
    let mine = c.self.inside in
    let theirs = c.other.inside in
    let this : IsPrefix mine.seen.log both = subst (λ (l : List (List ℕ)). IsPrefix l both) (ap (λ s. s.log) c.again-both.ensures) c.learn.ensures.2 in
    rw (← c.self.view_is, ← c.other.view_is) (one_front mine.seen.log theirs.seen.log both mine.count theirs.count c.self.invariant.1 c.other.invariant.1 this c.learn.ensures.3 is)
