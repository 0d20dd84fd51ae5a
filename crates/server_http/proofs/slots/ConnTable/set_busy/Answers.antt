use Rattle.std.proofs.Common.{◌≡◌, ◌<◌, ◌∙◌, sym, ap, length, Some, [], ℕ, arith}
use Rattle.std.proofs.lemmas.Grind.{common_steps}
use Rattle.std.specs.Option.{option_and_then}
use Rattle.server_http.specs.declared.slots.ConnEntry.{ConnEntry}
use Rattle.std.specs.BTreeMap.{BTreeMap, is_at}
use Rattle.std.specs.Map.{remove_entry}
use Rattle.std.specs.Ordering.{nat_cmp}
use Rattle.slab.specs.Slab.{get}
use Rattle.server_http.proofs.SlotsLemmas.{seen_set, idle_without-idle}
use Rattle.server_http.proofs.slots.ConnTable.set_busy.Goals as goal

pub returns-in-Some-get_mut-2-clause-idle : goal.returns-in-Some-get_mut-2-clause-idle
returns-in-Some-get_mut-2-clause-idle c =
    let table = c.args.self.now in
    let conn = c.in-Some-get_mut.entry.now in
    let found : get table.conns c.args.key ≡ Some conn = sym c.in-Some-get_mut.ensures.value in
    let idle : conn.since ≡ Some c.in-Some.since = sym (c.in-Some.ensures ∙ ap (option_and_then (λ (entry : ConnEntry). entry.since)) found) in
    let within : conn.client < length table.idle.items = grind (arith, common_steps) in
    seen_set (λ (m : BTreeMap ℕ ℕ). m.entries) (remove_entry (is_at (nat_cmp c.in-Some.since))) table.idle.items conn.client c.in-Some-get_mut-2.idle.now c.remove.new.self [] within c.in-Some-get_mut-2.ensures.value c.remove.ensures.entries
    ∙ sym (idle_without-idle table c.args.key c.in-Some.since conn found idle)
