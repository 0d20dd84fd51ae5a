use Rattle.std.proofs.Common.{◌≡◌, ◌-◌, ℕ, List, [], Some, get_or, length, take, drop, subst, sym, arith}
use Rattle.std.specs.BTreeMap.{get}
use Rattle.std.specs.List.{Contains}
use Rattle.std.proofs.lemmas.List.{length-drop, take_all}
use Rattle.mds_bitmaps.specs.Index.{IsSince, device_cmp}
use Rattle.mds_bitmaps.proofs.Walking.{kept_when_read}
use Rattle.mds_bitmaps.proofs.bitmap_index.with_sinces.Goals as goal

pub refresh_words-requires-clause-kept : goal.refresh_words-requires-clause-kept
refresh_words-requires-clause-kept c k v less found out =
    let seen = c.args.listed.seen in
    let changed : List (List ℕ) = c.args.listed.changed.items in
    let devices : List (List ℕ) = c.args.listed.devices.items in
    let rest : take (length changed - seen) (drop seen changed) ≡ drop seen changed = take_all (length changed - seen) (drop seen changed) (omega (arith, length-drop seen changed)) in
    c.requires.sinces k v less (subst (λ (ds : List (List ℕ)). get device_cmp c.args.vehicles.now (get_or ds k []) ≡ Some v) c.deref.ensures.value found)
    (λ e. out (subst (λ (ds : List (List ℕ)). Contains (take (length c.deref-2.result.now - seen) (drop seen c.deref-2.result.now)) (get_or ds k [])) (sym c.deref.ensures.value)
    (subst (λ (cs : List (List ℕ)). Contains (take (length cs - seen) (drop seen cs)) (get_or devices k [])) (sym c.deref-2.ensures.value)
    (subst (λ (xs : List (List ℕ)). Contains xs (get_or devices k [])) (sym rest) e))))

pub returns-clause-kept : goal.returns-clause-kept
returns-clause-kept c published is = record {
  devices = is.devices;
  seen = omega (arith, c.len-seen.ensures);
  sinces = kept_when_read IsSince c.args.vehicles.now c.requires.ordered c.args.listed.devices.items is.devices c.in_ok-sinces.sinces.items c.in_ok-sinces.ensures (drop c.len-seen.result c.args.listed.changed.items);
  columns = is.columns;
}
