use Rattle.std.proofs.Common.{map, subst, refl, ◌++◌}
use Rattle.journal_swap.proofs.Rolled.{caught_up}
use Rattle.journal_swap.proofs.swap_log.catch_up.Goals as goal

pub returns-clause-caught : goal.returns-clause-caught
returns-clause-caught g c =
    caught_up g.P.Equivalence.same _ _ _ _ _ c.into_parts-log.ensures
    (λ l m. c.in_ok-sync.ensures.unchanged _ (subst (λ ts. g.L.Log.may_be c.append_to.new.log (l ++ map (λ v. v.items) ts)) c.deref.ensures.value (c.in_ok-append_to.ensures.appended l m)))
    (c.if-not-is_behind.ensures refl).1
