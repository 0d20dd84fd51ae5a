use Rattle.std.proofs.Common.{map, sym}
use Rattle.std.proofs.lemmas.List.{length-map}
use Rattle.journal_swap.proofs.Rolled.{rolled_more}
use Rattle.journal_swap.proofs.swap_log.SwapLogLog.append.Goals as goal

pub returns-clause-appended : goal.returns-clause-appended
returns-clause-appended g c = λ list r.
    rolled_more g.P.Equivalence.same _ _ _ _ _ _ _ _ _ (map (λ v. v.items) c.args.texts.now) _ _ list r c.in_ok-append_to.ensures.appended (sym (length-map c.args.texts.now _)) c.add.ensures
