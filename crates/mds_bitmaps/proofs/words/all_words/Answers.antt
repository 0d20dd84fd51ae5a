use Rattle.std.proofs.Common.{◌≡◌, suc, ◌++◌, ◌∷◌, [], length, map, take, subst, sym, ap, ◌∙◌, rules, arith}
use Rattle.std.specs.declared.alloc.Global.{Global}
use Rattle.std.specs.declared.boxed.Box.{Box}
use Rattle.std.specs.BTreeMap.{values}
use Rattle.std.specs.Map.Iter.{deref}
use Rattle.std.proofs.lemmas.Map.Iter.{rest_more, rest_all}
use Rattle.std.proofs.lemmas.List.{length_push, map-append}
use Rattle.mds_match.specs.Row.{Row, row_of}
use Rattle.mds_match.specs.declared.vehicle.Vehicle.{Vehicle}
use Rattle.mds_bitmaps.proofs.Walking.{next, all_taken, read_more}
use Rattle.mds_bitmaps.proofs.words.all_words.Goals as goal

pub loop-vehicle-preserved : goal.loop-vehicle-preserved
loop-vehicle-preserved g c =
    let n = length c.loop-vehicle.words.items in
    let all = values c.args.vehicles.now in
    let row : Box Vehicle Global → Row = λ v. row_of v.value in
    let taken = rest_more deref c.loop-vehicle.vehicle-iterator c.next.new.self c.next.result c.in-Some.vehicle c.in-Some.is c.next.ensures.steps in
    let at = next all n c.in-Some.vehicle.now c.next.new.self (sym c.loop-vehicle.invariant.rest ∙ taken) in
    let pushed : c.push.new.self.items ≡ c.loop-vehicle.words.items ++ c.of.result ∷ [] = search rules in
    let more : length c.push.new.self.items ≡ suc n = omega (arith, ap length pushed, length_push c.loop-vehicle.words.items c.of.result) in
    let rows : map row (take (suc n) all) ≡ map row (take n all) ++ row c.in-Some.vehicle.now ∷ [] = ap (map row) at.before ∙ map-append row (take n all) (c.in-Some.vehicle.now ∷ []) in
    rw more (record {
      rest = sym at.behind;
      read = rw (rows, pushed) (read_more (g.W.VehicleWord.is c.args.word.now) (map row (take n all)) c.loop-vehicle.words.items (row c.in-Some.vehicle.now) c.of.result (subst (λ (v : Vehicle). g.W.VehicleWord.is c.args.word.now (row_of v) c.of.result) c.deref.ensures c.of.ensures) c.loop-vehicle.invariant.read);
    })

pub returns : goal.returns
returns g c =
    let n = length c.loop-vehicle.words.items in
    let whole = all_taken (values c.args.vehicles.now) n (sym c.loop-vehicle.invariant.rest ∙ rest_all deref c.loop-vehicle.vehicle-iterator c.next.new.self c.next.result c.in-None.is c.next.ensures.steps) in
    rw whole at c.loop-vehicle.invariant.read
