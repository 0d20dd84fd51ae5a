use Rattle.std.proofs.Common.{◌≡◌, ◌+◌, [], ◌∷◌, ◌++◌, length, map, sym, ap, ◌∙◌, arith, length-append, append_assoc}
use Rattle.std.proofs.lemmas.List.{append-nil}
use Rattle.std.specs.List.{range_with_len}
use Rattle.std.specs.Vec.Iter.{into_iter_items}
use Rattle.mds_desk.specs.Desk.{state_of}
use Rattle.server_state.specs.TurnList.{opened_as}
use Rattle.server_state.proofs.Placing.{as_many, at_its_place, empty, one_each, one_more, one_more_as}
use Rattle.server_state.proofs.hall.lock_each.Goals as goal

pub new-requires-clause-desk : goal.new-requires-clause-desk
new-requires-clause-desk g c =
    let inv = c.loop-desk.invariant in
    at_its_place state_of g.K.HallName.configuration c.args.desks.items c.loop-desk.yielded c.in-Some.desk (into_iter_items c.next.new.self) c.requires
    (ap (λ rest. c.loop-desk.yielded ++ rest) (sym c.in-Some.ensures.steps.0) ∙ inv.all)
    c.len-place.result (omega (arith, c.len-place.ensures, c.loop-desk.locked.ok.0, as_many _ c.loop-desk.locked.items (length c.loop-desk.yielded) inv.in_order))

pub loop-desk-preserved : goal.loop-desk-preserved
loop-desk-preserved g c =
    let inv = c.loop-desk.invariant in
    let lock = c.in-Some-new.lock in
    let long : length (c.loop-desk.yielded ++ c.in-Some.desk ∷ []) ≡ length c.loop-desk.yielded + 1 = length-append c.loop-desk.yielded (c.in-Some.desk ∷ []) in
    let here : lock.place ≡ length c.loop-desk.yielded =
    omega (arith, c.in-Some-new.ensures.place, c.len-place.ensures, c.loop-desk.locked.ok.0, as_many _ c.loop-desk.locked.items (length c.loop-desk.yielded) inv.in_order) in
    record {
      in_order = one_more _ c.loop-desk.locked.items c.push.new.self.items lock (length c.loop-desk.yielded) (length (c.loop-desk.yielded ++ c.in-Some.desk ∷ []))
          c.in_ok-push.ensures.items here long inv.in_order;
      opened = one_more_as _ (λ desk. opened_as (state_of desk)) c.loop-desk.locked.items c.push.new.self.items lock c.loop-desk.yielded c.in-Some.desk
          c.in_ok-push.ensures.items c.in-Some-new.ensures.opening inv.opened;
      all = rw append_assoc (ap (λ rest. c.loop-desk.yielded ++ rest) (sym c.in-Some.ensures.steps.0) ∙ inv.all);
    }

pub returns-clause-places : goal.returns-clause-places
returns-clause-places g c =
    let inv = c.loop-desk.invariant in
    let none : length (into_iter_items c.loop-desk.desk-iterator) ≡ 0 = sym c.loop-desk.desk-iterator.rest.ok.0 ∙ c.in-None.ensures.steps.0 in
    let all : length c.loop-desk.yielded ≡ length g.K.HallName.configuration.operators =
    omega (arith, none, ap length inv.all, length-append c.loop-desk.yielded (into_iter_items c.loop-desk.desk-iterator), one_each state_of g.K.HallName.configuration c.args.desks.items c.requires) in
    inv.in_order ∙ ap (range_with_len 0) all

pub returns-clause-opened : goal.returns-clause-opened
returns-clause-opened g c =
    let inv = c.loop-desk.invariant in
    let none : into_iter_items c.loop-desk.desk-iterator ≡ [] =
    empty (into_iter_items c.loop-desk.desk-iterator) (sym c.loop-desk.desk-iterator.rest.ok.0 ∙ c.in-None.ensures.steps.0) in
    let all : c.loop-desk.yielded ≡ c.args.desks.items = sym (append-nil c.loop-desk.yielded) ∙ ap (λ rest. c.loop-desk.yielded ++ rest) (sym none) ∙ inv.all in
    inv.opened ∙ ap (map (λ desk. opened_as (state_of desk))) all
