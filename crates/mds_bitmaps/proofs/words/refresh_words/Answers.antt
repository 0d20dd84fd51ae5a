use Rattle.std.proofs.Common.{◌≡◌, ℕ, List, refl, length, subst, sym, arith}
use Rattle.std.specs.declared.alloc.Global.{Global}
use Rattle.std.specs.declared.boxed.Box.{Box}
use Rattle.std.specs.BTreeMap.{values}
use Rattle.std.proofs.lemmas.List.{length-map}
use Rattle.mds_verdict.proofs.Numbered.{written_back}
use Rattle.mds_match.specs.declared.vehicle.Vehicle.{Vehicle}
use Rattle.mds_bitmaps.specs.Index.{AreRead, rows_in}
use Rattle.mds_bitmaps.proofs.Walking.{read_when_kept}
use Rattle.mds_bitmaps.proofs.words.refresh_words.Goals as goal

pub returns : goal.returns
returns g c =
    let Is = g.W.VehicleWord.is c.args.word.now in
    let words = c.renew.new.words in
    let vehicles = c.args.vehicles.now in
    let long : c.args.kept.len ≡ length words = omega arith in
    let all : length words ≡ length (values vehicles) = omega (arith, c.if-not-renew.ensures.long, c.deref_mut.ensures.len, c.len.ensures, c.if-len.false, c.len-2.ensures.len, length-map vehicles.entries (λ (e : List ℕ × Box Vehicle Global). e.1)) in
    subst (AreRead Is (rows_in vehicles)) (sym (written_back c.args.kept.len c.args.kept.items words long))
    (read_when_kept Is vehicles c.len-2.ensures.ordered c.args.devices.now c.requires.listed words all (c.if-not-renew.ensures.kept refl))
