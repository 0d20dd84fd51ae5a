use Rattle.std.proofs.Common.{◌≡◌, ◌+◌, List, [], ◌∷◌, ◌++◌, length, map, arith, ap, ◌∙◌, sym, length-append}
use Rattle.std.proofs.lemmas.List.{length-replicate}
use Rattle.std.specs.List.{range_with_len}
use Rattle.std.specs.Vec.Iter.{into_iter_items}
use Rattle.mds_catalog.specs.Publication.{Publication}
use Rattle.mds_request.specs.Configuration.{configuration}
use Rattle.mds_desk.specs.Desk.{state_of, new_desk}
use Rattle.mds_desk.proofs.Made.{one_more}
use Rattle.mds_desk.proofs.furnishing.desks.Goals as goal

pub loop-pane-preserved : goal.loop-pane-preserved
loop-pane-preserved g c =
    let inv = c.loop-pane.invariant in
    let n = length c.loop-pane.yielded in
    let m = length (c.loop-pane.yielded ++ c.in-Some.pane ∷ []) in
    let long : m ≡ n + 1 = length-append c.loop-pane.yielded (c.in-Some.pane ∷ []) in
    let here : c.len-place.result ≡ n = omega (arith, c.len-place.ensures, c.loop-pane.desks.ok.0, inv.each) in
    record {
      made = one_more state_of (new_desk (configuration c.args.config.now.value)) c.loop-pane.desks.items c.push_reserved.new.self.items c.new.result n m c.push_reserved.ensures.items
          (c.new.ensures ∙ ap (λ a. new_desk (configuration a) c.len-place.result) c.in_ok-config.ensures ∙ ap (new_desk (configuration c.args.config.now.value)) here)
          long inv.made;
      each = omega (arith, ap length c.push_reserved.ensures.items, length-append c.loop-pane.desks.items (c.new.result ∷ []), inv.each, long);
      room = omega (arith, c.push_reserved.ensures.capacity, inv.room);
      count = omega (arith, long, inv.count, ap length c.in-Some.ensures.steps.0);
    }

pub returns : goal.returns
returns g c =
    let inv = c.loop-pane.invariant in
    let none : length (into_iter_items c.loop-pane.pane-iterator) ≡ 0 = sym c.loop-pane.pane-iterator.rest.ok.0 ∙ c.in-None.ensures.steps.0 in
    let all : length c.loop-pane.yielded ≡ length (configuration c.args.config.now.value).operators =
    omega (arith, inv.count, none, ap length c.requires, length-replicate {A = List Publication} (length (configuration c.args.config.now.value).operators) []) in
    inv.made ∙ ap (λ n. map (new_desk (configuration c.args.config.now.value)) (range_with_len 0 n)) all
