use Rattle.std.proofs.Common.{List, ℕ, subst, arith}
use Rattle.journal_compaction.proofs.Groups.{group_more}
use Rattle.journal_compaction.proofs.writing.append_all.Goals as goal

pub loop-start-preserved : goal.loop-start-preserved
loop-start-preserved g c =
    let entries = c.args.entries.now in
    let start = c.loop-start.start in
    let end = c.min-end.result in
    let within = c.loop-start.invariant.within in
    record {
      within = omega (arith, c.min-end.ensures);
      appended = λ list h.
          subst (λ (texts : List (List ℕ)). g.L.Log.may_be c.append.new.log texts)
          (group_more _ list entries start end (omega (arith, c.min-end.ensures, c.saturating_add.ensures, within, c.loop-start-test.true, c.loop-start.auto.start-fits)) within)
          (c.in_ok-count.ensures _ (c.loop-start.invariant.appended list h));
    }
