use Rattle.std.proofs.Common.{◌≡◌, ◌+◌, ◌++◌, ◌∷◌, take, drop, reverse, sym, ap, subst, ◌∙◌, arith}
use Rattle.std.specs.BTreeMap.{get}
use Rattle.journal_compaction.specs.declared.kind.Device.{Device}
use Rattle.journal_compaction.specs.Staying.{state_before}
use Rattle.journal_compaction.specs.Passes.{device_cmp, begins_at, beginnings}
use Rattle.journal_compaction.proofs.Loops.{reverse_more, begins_more}
use Rattle.journal_compaction.proofs.choosing.beginnings.Goals as goal

pub loop-kind-preserved : goal.loop-kind-preserved
loop-kind-preserved c =
    let kinds = c.args.kinds.now in
    let i = c.loop-kind.kind-index in
    let before = reverse (take i kinds) in
    let begins = c.in_ok-begins_run.ensures.begins before c.loop-kind.invariant.known in
    let known = c.in_ok-begins_run.ensures.known before c.loop-kind.invariant.known in
    let here = c.kind-item.is in
    record {
      found = ap (λ found. found ++ beginnings (reverse (take (i + 1) kinds)) (drop (i + 1) kinds)) c.in_ok-push.ensures.items
          ∙ begins_more c.loop-kind.found.items kinds i c.kind-item.result c.in_ok-begins_run.field-0 (omega (arith, c.loop-kind-test.true)) c.loop-kind.invariant.found
          (subst (λ kind. c.in_ok-begins_run.field-0 ≡ begins_at before kind) here begins);
      known = subst (λ front. (q : Device) → get device_cmp c.begins_run.new.states q ≡ state_before q front)
          (sym (reverse_more kinds i c.kind-item.result (omega (arith, c.loop-kind-test.true))))
          (subst (λ kind. (q : Device) → get device_cmp c.begins_run.new.states q ≡ state_before q (kind ∷ before)) here known);
    }
