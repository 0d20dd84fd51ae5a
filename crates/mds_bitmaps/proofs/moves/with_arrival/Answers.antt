use Rattle.std.proofs.Common.{◌≡◌, ◌≤◌, List, ℕ, [], ◌∷◌, ◌++◌, insert, length, refl, subst, sym, rules, arith}
use Rattle.std.specs.declared.cmp.Ordering.TheVariants.{Less, Greater}
use Rattle.std.specs.List.Sorted.{IsNonDecreasingBy, IsPartitionPoint}
use Rattle.std.specs.Ordering.{ordering_index}
use Rattle.mds_verdict.proofs.Numbered.{written_back}
use Rattle.mds_bitmaps.specs.Index.{AreEdited, device_cmp, with_place}
use Rattle.mds_bitmaps.specs.declared.bitmap_index.BitmapColumn.{BitmapColumn}
use Rattle.mds_bitmaps.proofs.Moving.{listed_more}
use Rattle.mds_bitmaps.proofs.moves.with_arrival.Goals as goal

pub returns-clause-fits : goal.returns-clause-fits
returns-clause-fits c published before after ordered arrives is =
    let listed = c.args.listed in
    let device : List ℕ = c.args.device in
    let place = c.in-Err.place in
    let within = subst (λ (ds : List (List ℕ)). place ≤ length ds) c.deref.ensures.value c.in-Err.ensures.bound in
    let parted = subst (λ (ds : List (List ℕ)). IsNonDecreasingBy (λ (y : List ℕ). ordering_index (device_cmp y device)) ds → IsPartitionPoint (λ y. device_cmp y device ≡ Less) (λ y. device_cmp y device ≡ Greater) ds place) c.deref.ensures.value c.in-Err.ensures.position in
    let put : c.put_in.new.list.items ≡ insert listed.devices.items place device = search rules in
    let words : c.put_word.new.words.items ≡ with_place place listed.sinces.items = search rules in
    let edits : AreEdited (with_place place) c.deref_mut.result.now c.put_bitmaps.new.columns = search rules in
    let logged : c.log_change.new.changed.items ≡ listed.changed.items ++ device ∷ [] = search rules in
    let long : listed.columns.len ≡ length c.put_bitmaps.new.columns = omega (arith, edits.long, c.deref_mut.ensures.len) in
    let columns = subst (λ (xs : List BitmapColumn). AreEdited (with_place place) listed.columns.items xs) (sym (written_back listed.columns.len listed.columns.items c.put_bitmaps.new.columns long))
    (subst (λ (xs : List BitmapColumn). AreEdited (with_place place) xs c.put_bitmaps.new.columns) c.deref_mut.ensures.value edits) in
    listed_more device before after ordered arrives published listed _ place within parted put words refl columns logged is
