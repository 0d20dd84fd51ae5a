use Rattle.std.proofs.Common.{◌≡◌, ◌<◌, ◌≤◌, None, Some, List, [], ℕ, length, get_or, subst, ap, sym, ◌∙◌, rules, arith}
use Rattle.std.specs.BTreeMap.{get}
use Rattle.std.proofs.lemmas.List.{get_or_default, length-set}
use Rattle.std.proofs.lemmas.Map.Lookups.{exact_bytes}
use Rattle.mds_match.specs.Row.{row_of}
use Rattle.mds_match.specs.declared.vehicle.Vehicle.{Vehicle}
use Rattle.mds_bitmaps.specs.Index.{device_cmp}
use Rattle.mds_bitmaps.proofs.Walking.{put, beyond, not_held}
use Rattle.mds_bitmaps.proofs.words.renew.Goals.{then-at-words, else-at-words}
use Rattle.mds_bitmaps.proofs.words.renew.Goals as goal

pub loop-device-preserved : goal.loop-device-preserved
loop-device-preserved g c =
    let Is = g.W.VehicleWord.is c.args.word.now in
    let i = c.loop-device.device-index in
    let devices : List (List ℕ) = c.args.devices.now in
    let changed : List (List ℕ) = c.args.changed.now in
    let words = c.loop-device.words in
    let few : length words ≤ length devices = omega (arith, c.loop-device.invariant.long, c.requires.few) in
    let inside : c.in-Ok.at < length devices = c.in-Ok.ensures.bound in
    let item : c.device-item.result ≡ get_or changed i [] = c.device-item.is ∙ get_or_default changed i c.device-item.result [] c.loop-device-test.true in
    let here : get_or devices c.in-Ok.at [] ≡ get_or changed i [] = exact_bytes _ _ (c.in-Ok.ensures.ok []) ∙ item in
    let found : get device_cmp c.args.vehicles.now c.device-item.result ≡ Some c.in-Some.vehicle.now = search rules in
    let held = ap (get device_cmp c.args.vehicles.now) (sym item) ∙ found in
    elim c.if-at-words.branch [
      | then-at-words w ↦
          let room : c.in-Ok.at < length words = search rules in
          rw w.words-is (record {
            long = omega (arith, length-set words c.in-Ok.at w.of.result, c.loop-device.invariant.long);
            kept = put Is c.args.vehicles.now c.requires.ordered devices changed c.requires.listed words i c.loop-device-test.true c.loop-device.invariant.kept c.in-Ok.at here inside c.in-Some.vehicle.now w.of.result held (subst (λ (v : Vehicle). Is (row_of v) w.of.result) w.deref.ensures w.of.ensures) room few;
          })
      | else-at-words w ↦
          let outside : length words ≤ c.in-Ok.at = search rules in
          rw w.words-is (record {
            long = c.loop-device.invariant.long;
            kept = beyond Is c.args.vehicles.now c.requires.ordered devices changed c.requires.listed words i c.loop-device-test.true c.loop-device.invariant.kept c.in-Ok.at here inside outside few;
          })
    ]

-- the device went since it changed
pub loop-device-preserved-in_default : goal.loop-device-preserved-in_default
loop-device-preserved-in_default g c =
    let i = c.loop-device.device-index in
    let changed : List (List ℕ) = c.args.changed.now in
    let item : c.device-item.result ≡ get_or changed i [] = c.device-item.is ∙ get_or_default changed i c.device-item.result [] c.loop-device-test.true in
    let absent : get device_cmp c.args.vehicles.now c.device-item.result ≡ None = search rules in
    record {
      long = c.loop-device.invariant.long;
      kept = not_held (g.W.VehicleWord.is c.args.word.now) c.args.vehicles.now c.args.devices.now changed c.loop-device.words i c.loop-device-test.true (ap (get device_cmp c.args.vehicles.now) (sym item) ∙ absent) c.loop-device.invariant.kept;
    }
