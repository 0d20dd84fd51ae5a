use Rattle.std.proofs.Common.{◌≡◌, ◌+◌, ◌<◌, ◌≤◌, ◌^◌, ◌++◌, ◌∷◌, [], Some, None, length, map, take, get_or, sym, ap, ◌∙◌, arith}
use Rattle.std.proofs.lemmas.List.{length-take-le, take_all, take_more}
use Rattle.mds_policy.specs.Policy.{policy_document, rule_document}
use Rattle.mds_match.specs.Matching.{first}
use Rattle.mds_verdict.specs.Gathered.{gathered, gathered_rule}
use Rattle.mds_verdict.specs.Verdict.{verdict_document}
use Rattle.mds_verdict.proofs.Counting.{number_within, values-uncaught}
use Rattle.mds_verdict.proofs.Measures.{gathered_at_most, gathered_of_none, length_held, measures_fit}
use Rattle.mds_verdict.proofs.Numbered.{written_back}
use Rattle.mds_bitmaps.proofs.Counted.{device_at, since_at, some_in}
use Rattle.mds_bitmaps.proofs.columns.count_all.Goals.{in-Some+in_ok-count, in_default}
use Rattle.mds_bitmaps.proofs.columns.count_all.Goals as goal

pub loop-place-init : goal.loop-place-init
loop-place-init c polygons rows are =
    gathered_of_none rule_document c.rules.result.now (policy_document c.args.policy.now) polygons c.args.local c.args.moment _ c.rules.ensures c.in_ok-held.ensures

pub count-requires-clause-whole : goal.count-requires-clause-whole
count-requires-clause-whole c =
    let so_far = c.loop-place.invariant c.requires.columns.0 c.requires.columns.1 c.requires.columns.2 in
    length_held (policy_document c.args.policy.now) c.requires.columns.0 (take c.loop-place.place c.requires.columns.1) c.args.local c.args.moment c.deref_mut.result.now
    (ap (map verdict_document) c.deref_mut.ensures.value ∙ so_far)

pub count-requires-clause-few : goal.count-requires-clause-few
count-requires-clause-few c =
    let rows = c.requires.columns.1 in
    let so_far = c.loop-place.invariant c.requires.columns.0 rows c.requires.columns.2 in
    let within : c.loop-place.place ≤ length rows = omega (arith, c.loop-place-test.true, c.requires.columns.2.long) in
    let fits : c.loop-place.place < 2 ^ 63 = omega (arith, c.loop-place-test.true) in
    measures_fit _ (length (take c.loop-place.place rows)) (2 ^ 63) c.deref_mut.result.now (ap (map verdict_document) c.deref_mut.ensures.value ∙ so_far)
    (gathered_at_most (policy_document c.args.policy.now) c.requires.columns.0 (take c.loop-place.place rows) c.args.local c.args.moment)
    (omega (arith, length-take-le c.loop-place.place rows within, fits))

pub count-requires-clause-within : goal.count-requires-clause-within
count-requires-clause-within c =
    let policy = policy_document c.args.policy.now in
    let rows = c.requires.columns.1 in
    let short : c.loop-place.place < length rows = omega (arith, c.loop-place-test.true, c.requires.columns.2.long) in
    let row = get_or rows c.loop-place.place (some_in rows c.loop-place.place short) in
    let is = c.first_of.ensures.first policy c.requires.columns.0 row c.args.local c.requires.few c.open_bitmap-active.ensures (c.requires.columns.2.each c.loop-place.place _ short) in
    number_within policy c.requires.columns.0 row c.args.local (Some c.in-Some.number) (sym c.in-Some.is ∙ is)

pub loop-place-preserved : goal.loop-place-preserved
loop-place-preserved c polygons rows are =
    let policy = policy_document c.args.policy.now in
    let k = c.loop-place.place in
    let held = c.loop-place.held in
    let devices = c.args.columns.now.devices.now in
    let sinces = c.args.columns.now.sinces.now in
    let masks = c.args.columns.now.masks.now in
    let short : k < length rows = omega (arith, c.loop-place-test.true, are.long) in
    let d = some_in rows k short in
    let row = get_or rows k d in
    let is = c.first_of.ensures.first policy polygons row c.args.local c.requires.few c.open_bitmap-active.ensures (are.each k d short) in
    let more : take k rows ++ row ∷ [] ≡ take (k + 1) rows = sym (take_more rows k d short) in
    let so_far = c.loop-place.invariant polygons rows are in
    elim c.match-first_of.branch [
      | in-Some+in_ok-count w ↦
          let device_is = sym (device_at policy polygons rows devices sinces masks are k d short w.index-columns-place.result) in
          let since_is = sym (since_at policy polygons rows devices sinces masks are k d short 0) in
          let long : held.len ≡ length w.count.new.held = omega arith in
          ap (λ v. map verdict_document v.items) w.held-is ∙ ap (map verdict_document) (written_back held.len held.items w.count.new.held long)
          ∙ w.in_ok-count.ensures polygons (take k rows) row c.args.local device_is since_is (sym w.in-Some.is ∙ is) (ap (map verdict_document) w.deref_mut.ensures.value ∙ so_far)
          ∙ ap (λ rs. gathered policy polygons rs c.args.local c.args.moment) more
      | in_default w ↦
          let none : first policy polygons row c.args.local ≡ None = sym is ∙ w.in_default.is in
          ap (λ v. map verdict_document v.items) w.held-is ∙ so_far
          ∙ sym (values-uncaught policy polygons (take k rows) row c.args.local c.args.moment (λ n r rs. gathered_rule r c.args.local rs) none)
          ∙ ap (λ rs. gathered policy polygons rs c.args.local c.args.moment) more
    ]

pub returns : goal.returns
returns c polygons rows are =
    c.loop-place.invariant polygons rows are
    ∙ ap (λ rs. gathered (policy_document c.args.policy.now) polygons rs c.args.local c.args.moment) (take_all c.loop-place.place rows (omega (arith, c.loop-place-test.false, are.long)))
