use Rattle.std.proofs.Common.{◌≡◌, ◌∙◌, Some, option_map, sym, ap, refl}
use Rattle.std.proofs.lemmas.Bool.{false≢true}
use Rattle.slab.specs.Slab.{get}
use Rattle.server_http.specs.Slots.{StartsWait, asker, busy}
use Rattle.server_http.specs.declared.slots.ConnTable.{ConnTable}
use Rattle.server_http.proofs.SlotsLemmas.{asker_of_busy, fits_between, free_conn, waits_as, waits_from}
use Rattle.server_http.proofs.slots.ConnTable.admit.Goals.{else-assign_actor-via-then-assign_actor+else-start_wait, else-assign_actor-via-else-assign_actor}
use Rattle.server_http.proofs.slots.ConnTable.admit.Goals as goal

pub returns-then-start_wait-clause-admitted : goal.returns-then-start_wait-clause-admitted
returns-then-start_wait-clause-admitted c =
    let old = c.args.self.now in
    let between = c.assign_actor.new.self in
    let key = c.args.key in
    let found = free_conn (get old.conns key) (sym c.is_free.ensures ∙ c.if-not-is_free.false) in
    let conn = found.0 in
    let there : get c.set_busy.new.self.conns key ≡ Some (busy conn) = c.set_busy.ensures.conns.changed ∙ ap (option_map busy) found.1 in
    let waits = waits_as (get between.conns key) (asker c.args.actor (busy conn)) c.args.bytes between c.start_wait.new.self (c.if-assign_actor.ensures.client (busy conn) there) c.if-start_wait.ensures.waits in
    let loads : between.loads ≡ old.loads = ap (λ (table : ConnTable). table.loads) c.assign_actor.ensures.rest ∙ ap (λ (table : ConnTable). table.loads) c.set_busy.ensures.rest in
    let all : between.bytes ≡ old.bytes = ap (λ (table : ConnTable). table.bytes) c.assign_actor.ensures.rest ∙ ap (λ (table : ConnTable). table.bytes) c.set_busy.ensures.rest in
    let held : StartsWait (asker c.args.actor conn) c.args.bytes old c.start_wait.new.self = waits_from _ _ old between _ loads all (rw (← asker_of_busy c.args.actor conn) waits) in
    (refl, rw found.1 (found.2, held))

pub returns-else-assign_actor-clause-may : goal.returns-else-assign_actor-clause-may
returns-else-assign_actor-clause-may c conn opened found free same room =
    let old = c.args.self.now in
    let key = c.args.key in
    let there : get c.set_busy.new.self.conns key ≡ Some (busy conn) = c.set_busy.ensures.conns.changed ∙ ap (option_map busy) found in
    let stays = c.assign_actor.ensures.same (busy conn) there (same ∙ sym (asker_of_busy c.args.actor conn)) in
    elim c.else-assign_actor.branch [
      | else-assign_actor-via-then-assign_actor+else-start_wait w ↦
          absurd (false≢true (sym w.if-start_wait.false ∙ (w.start_wait.ensures.fits ∙ fits_between c.args.bytes key old c.assign_actor.new.self conn
          (ap (λ (table : ConnTable). table.loads) c.assign_actor.ensures.rest ∙ ap (λ (table : ConnTable). table.loads) c.set_busy.ensures.rest)
          (ap (λ (table : ConnTable). table.bytes) c.assign_actor.ensures.rest ∙ ap (λ (table : ConnTable). table.bytes) c.set_busy.ensures.rest)
          (ap (λ (table : ConnTable). get table.conns key) stays.1 ∙ there) room)))
      | else-assign_actor-via-else-assign_actor w ↦ absurd (false≢true (sym w.if-assign_actor.false ∙ stays.0))
    ]
