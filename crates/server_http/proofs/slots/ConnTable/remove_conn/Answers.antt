use Rattle.std.proofs.Common.{◌∙◌, ap, refl}
use Rattle.slab.specs.Slab.{get}
use Rattle.server_http.specs.Slots.{counts_of, idle_lists}
use Rattle.server_http.specs.declared.slots.ConnTable.{ConnTable}
use Rattle.server_http.proofs.SlotsLemmas.{Updates-again, bytes_of_busy, counts_of_answered, counts_of_busy, loads_of_busy}
use Rattle.server_http.proofs.slots.ConnTable.remove_conn.Goals as goal

pub returns-clause-conns : goal.returns-clause-conns
returns-clause-conns c =
    Updates-again _ _ _ _ _ _ (Updates-again _ _ _ _ _ _ c.set_busy.ensures.conns c.finish_request.ensures.conns) c.drop_conn.ensures.conns

pub returns-clause-loads : goal.returns-clause-loads
returns-clause-loads c =
    ap (λ (table : ConnTable). table.loads.items) c.drop_conn.ensures.rest ∙ (c.finish_request.ensures.loads
    ∙ loads_of_busy c.args.self.now c.set_busy.new.self c.args.key (get c.args.self.now.conns c.args.key) refl c.set_busy.ensures.conns.changed (ap (λ (table : ConnTable). table.loads) c.set_busy.ensures.rest))

pub returns-clause-bytes : goal.returns-clause-bytes
returns-clause-bytes c =
    ap (λ (table : ConnTable). table.bytes) c.drop_conn.ensures.rest ∙ (c.finish_request.ensures.bytes
    ∙ bytes_of_busy c.args.self.now c.set_busy.new.self c.args.key (get c.args.self.now.conns c.args.key) refl c.set_busy.ensures.conns.changed (ap (λ (table : ConnTable). table.bytes) c.set_busy.ensures.rest))

pub returns-clause-counts : goal.returns-clause-counts
returns-clause-counts c =
    let first = c.args.self.now in
    let second = c.set_busy.new.self in
    c.drop_conn.ensures.counts
    ∙ (counts_of_answered second c.finish_request.new.self c.args.key (get second.conns c.args.key) refl c.finish_request.ensures.conns.changed (ap counts_of c.finish_request.ensures.rest)
    ∙ counts_of_busy first second c.args.key (get first.conns c.args.key) refl c.set_busy.ensures.conns.changed (ap counts_of c.set_busy.ensures.rest))

pub returns-clause-idle : goal.returns-clause-idle
returns-clause-idle c =
    ap idle_lists c.drop_conn.ensures.rest ∙ (ap idle_lists c.finish_request.ensures.rest ∙ c.set_busy.ensures.idle)
