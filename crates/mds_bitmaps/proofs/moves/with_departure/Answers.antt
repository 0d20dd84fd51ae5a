use Rattle.std.proofs.Common.{◌≡◌, ◌<◌, List, ℕ, get_or, length, refl, subst, sym, arith}
use Rattle.std.specs.declared.cmp.Ordering.TheVariants.{Equal}
use Rattle.mds_verdict.proofs.Numbered.{written_back}
use Rattle.mds_bitmaps.specs.Index.{AreEdited, device_cmp, without_place}
use Rattle.mds_bitmaps.specs.declared.bitmap_index.BitmapColumn.{BitmapColumn}
use Rattle.mds_bitmaps.proofs.Moving.{listed_fewer}
use Rattle.mds_bitmaps.proofs.moves.with_departure.Goals as goal

pub returns : goal.returns
returns c published before after ordered departs is =
    let listed = c.args.listed in
    let device : List ℕ = c.args.device in
    let place = c.in-Ok.place in
    let within = subst (λ (ds : List (List ℕ)). place < length ds) c.deref.ensures.value c.in-Ok.ensures.bound in
    let long : listed.columns.len ≡ length c.take_bitmaps.new.columns = omega (arith, c.take_bitmaps.ensures.long, c.deref_mut.ensures.len) in
    let columns = subst (λ (xs : List BitmapColumn). AreEdited (without_place place) listed.columns.items xs) (sym (written_back listed.columns.len listed.columns.items c.take_bitmaps.new.columns long))
    (subst (λ (xs : List BitmapColumn). AreEdited (without_place place) xs c.take_bitmaps.new.columns) c.deref_mut.ensures.value c.take_bitmaps.ensures) in
    listed_fewer device before after ordered departs published listed _ place within
    (λ d. subst (λ (ds : List (List ℕ)). device_cmp (get_or ds place d) device ≡ Equal) c.deref.ensures.value (c.in-Ok.ensures.ok d))
    c.remove.ensures.items c.take_word.ensures refl columns refl is
