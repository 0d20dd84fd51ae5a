use Rattle.std.proofs.Common.{sym, ap, ◌∙◌, refl, arith, length, length-drop, drop, take, ◌-◌, ◌+◌}
use Rattle.std.proofs.lemmas.List.{take_all}
use Rattle.std.specs.Cmp.Lexicographic.{slice_cmp}
use Rattle.std.specs.Ordering.{nat_cmp}
use Rattle.mds_policy.proofs.Placing.{HasPlace-Less, HasPlace-Equal, HasPlace-end, passed_more}
use Rattle.mds_policy.proofs.dated_tree.split_around.Goals as goal

pub returns-in-Less : goal.returns-in-Less
returns-in-Less c =
    HasPlace-Less c.args.name.now c.args.members.now c.split_at.result.0.now c.split_at.result.1.now c.loop-place.place c.index-members-place.result c.loop-place.invariant (omega arith) c.index-members-place.is (ap (slice_cmp nat_cmp c.args.name.now) (sym c.as_str.ensures.value) ∙ sym c.in-Less.ensures) c.split_at.ensures.front c.split_at.ensures.back

pub returns-in-Equal : goal.returns-in-Equal
returns-in-Equal c =
    let ms = c.args.members.now in
    let i = c.loop-place.place in
    HasPlace-Equal c.args.name.now ms (take i ms) (take (length ms - (i + 1)) (drop (i + 1) ms)) i c.index-members-place.result c.loop-place.invariant (omega arith) c.index-members-place.is (ap (slice_cmp nat_cmp c.args.name.now) (sym c.as_str.ensures.value) ∙ sym c.in-Equal.ensures) refl (take_all (length ms - (i + 1)) (drop (i + 1) ms) (omega (arith, length-drop (i + 1) ms)))

pub loop-place-preserved : goal.loop-place-preserved
loop-place-preserved c =
    passed_more c.args.name.now c.args.members.now c.loop-place.place c.index-members-place.result c.loop-place.invariant (omega arith) c.index-members-place.is (ap (slice_cmp nat_cmp c.args.name.now) (sym c.as_str.ensures.value) ∙ sym c.in-Greater.ensures)

pub returns : goal.returns
returns c = HasPlace-end c.args.name.now c.args.members.now c.loop-place.place c.loop-place.invariant (omega arith)
