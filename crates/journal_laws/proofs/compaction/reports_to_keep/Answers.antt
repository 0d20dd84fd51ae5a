use Rattle.std.proofs.Common.{◌≡◌, ℕ, ◌+◌, ◌-◌, ◌≤◌, ◌<◌, Bool, cond, List, [], ◌∷◌, ◌++◌, length, map, take, sym, ap, subst, ◌∙◌, arith}
use Rattle.std.proofs.lemmas.List.{length-map, length-take-le, map_more}
use Rattle.mds_fleet.specs.Books.{Report, report_document}
use Rattle.journal_laws.specs.Compaction.{ThinsTo}
use Rattle.journal_laws.proofs.Grown.{step, alone, seen_at}
use Rattle.journal_laws.proofs.compaction.reports_to_keep.Goals as goal
use Rattle.journal_laws.proofs.compaction.reports_to_keep.Goals.{then-not-is_same_state, else-not-is_same_state}

pub loop-place-init : goal.loop-place-init
loop-place-init c = alone report_document c.args.reports.now (sym c.is_empty.ensures ∙ c.if-is_empty.false)

pub loop-place-preserved : goal.loop-place-preserved
loop-place-preserved c =
    let place = c.loop-place.place in
    let reports = c.args.reports.now in
    let here = c.index-reports-place-in-loop-place in
    let last = c.index-reports-place in
    let within : place < length reports = c.loop-place-test.true in
    let some : 1 ≤ place = c.loop-place.auto.place in
    let so_far = map report_document (take place reports) in
    let long : length so_far ≡ place = length-map (take place reports) report_document ∙ length-take-le place reports (omega (arith, within)) in
    let more : map report_document (take (place + 1) reports) ≡ so_far ++ report_document here.result ∷ [] =
    map_more report_document reports place here.result within ∙ ap (λ r. so_far ++ report_document r ∷ []) (sym here.is) in
    let seen = seen_at report_document reports place (place - 1) last.result (omega (arith, some)) (omega (arith, within)) last.is in
    let chosen : c.if-not-is_same_state.begun ≡ cond c.is_same_state.result c.loop-place.begun place =
    elim c.if-not-is_same_state.branch [
      | then-not-is_same_state w ↦ w.begun-is ∙ ap (λ (b : Bool). cond b c.loop-place.begun place) (sym w.if-not-is_same_state.true)
      | else-not-is_same_state w ↦ w.begun-is ∙ ap (λ (b : Bool). cond b c.loop-place.begun place) (sym w.if-not-is_same_state.false)
    ] in
    let back : place ≡ place + 1 - 1 = omega arith in
    subst (λ (n : ℕ). ThinsTo (map report_document (take (place + 1) reports)) c.if-not-is_same_state.begun n) back
    (subst (λ (rs : List Report). ThinsTo rs c.if-not-is_same_state.begun place) (sym more)
    (step so_far (report_document here.result) (report_document last.result) c.loop-place.begun c.if-not-is_same_state.begun place (place - 1) c.is_same_state.result c.loop-place.invariant long seen c.is_same_state.ensures chosen))
