use Rattle.std.proofs.Common.{map, subst, ◌++◌}
use Rattle.journal_swap.proofs.Rolled.{shorter_more}
use Rattle.journal_swap.proofs.compacted_log.CompactedLog.catch_up.Goals as goal

pub invariant_of-result : goal.invariant_of-result
invariant_of-result g c =
    shorter_more g.P.Equivalence.same _ _ _ _ _ (map (λ v. v.items) c.in_ok-texts.texts.items) c.self.invariant
    (λ l m. subst (λ ts. g.L.Log.may_be c.append.new.self (l ++ map (λ v. v.items) ts)) c.deref.ensures.value (c.in_ok-append.ensures.appended l m))
    c.in_ok-sync.ensures.unchanged c.in_ok-texts.ensures
