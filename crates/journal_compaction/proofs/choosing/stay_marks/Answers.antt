use Rattle.std.proofs.Common.{◌≡◌, ◌-◌, Bool, List, ◌∷◌, [], drop, reverse, get_or, length, sym, ap, subst, ◌∙◌, arith}
use Rattle.std.specs.BTreeMap.{get}
use Rattle.journal_compaction.specs.declared.kind.Device.{Device}
use Rattle.journal_compaction.specs.Passes.{device_cmp, ahead_of, stays_at}
use Rattle.journal_compaction.proofs.Loops.{length_beginnings, beginning_at, stays_more, drop_one_more}
use Rattle.journal_compaction.proofs.choosing.stay_marks.Goals as goal

pub index-requires : goal.index-requires
index-requires c =
    omega (arith, c.loop-place-test.true, c.loop-place.auto.place, c.in_ok-begun.begun.ok.0, ap length c.in_ok-begun.ensures, length_beginnings [] c.args.kinds.now)

pub loop-place-preserved : goal.loop-place-preserved
loop-place-preserved c =
    let kinds = c.args.kinds.now in
    let place = c.loop-place.place in
    let some = c.loop-place-test.true in
    let within = c.loop-place.auto.place in
    let kind = c.index-kinds-place.result in
    let here = c.index-kinds-place.is in
    let stays = c.in_ok-stays.ensures.stays (drop place kinds) c.loop-place.invariant.behind in
    let known = c.in_ok-stays.ensures.known (drop place kinds) c.loop-place.invariant.behind in
    record {
      found = ap reverse c.in_ok-push.ensures.items
          ∙ stays_more c.loop-place.marks.items kinds place kind c.index.result.now c.in_ok-stays.field-0 some within c.loop-place.invariant.found
          (c.index.ensures ∙ ap (λ (found : List Bool). get_or found (place - 1) c.index.result.now) c.in_ok-begun.ensures
          ∙ beginning_at kinds (place - 1) kind c.index.result.now (omega (arith, some, within)))
          (subst (λ k. c.in_ok-stays.field-0 ≡ stays_at k c.index.result.now (drop place kinds)) here stays);
      behind = subst (λ behind. (q : Device) → get device_cmp c.stays.new.behind q ≡ ahead_of q behind)
          (sym (drop_one_more kinds place kind some within))
          (subst (λ k. (q : Device) → get device_cmp c.stays.new.behind q ≡ ahead_of q (k ∷ drop place kinds)) here known);
    }
