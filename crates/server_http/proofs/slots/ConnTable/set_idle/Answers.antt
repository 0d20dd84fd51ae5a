use Rattle.std.proofs.Common.{◌≡◌, ◌∙◌, ◌<◌, ℕ, List, Option, length, Some, [], is_some, sym, ap, arith}
use Rattle.std.proofs.lemmas.Grind.{common_steps}
use Rattle.std.specs.BTreeMap.{BTreeMap, insert_entry}
use Rattle.std.specs.Option.{option_and_then}
use Rattle.std.specs.Ordering.{nat_cmp}
use Rattle.slab.specs.Slab.{get}
use Rattle.slab.proofs.SlabLemmas.{Updates-with_value}
use Rattle.server_http.specs.Slots.{idle_lists, idle_with, idle_since}
use Rattle.server_http.specs.declared.slots.ConnEntry.{ConnEntry}
use Rattle.server_http.proofs.SlotsLemmas.{idle_noted, on_err, on_ok, seen_set, seen_set_same, was_there}
use Rattle.server_http.proofs.slots.ConnTable.set_idle.Goals as goal

pub returns-then-is_ok-clause-idle : goal.returns-then-is_ok-clause-idle
returns-then-is_ok-clause-idle c =
    let old = c.args.self.now in
    let between = c.set_busy.new.self in
    let key = c.args.key in
    let now = c.in-Some.entry.now in
    let since = c.saturating_add-self.result in
    let items = between.idle.items in
    let found : get between.conns key ≡ Some now = sym c.in-Some.ensures.value in
    let was = was_there (get old.conns key) now (c.in-Some.ensures.value ∙ c.set_busy.ensures.conns.changed) in
    let within : now.client < length items = grind (arith, common_steps) in
    let noted = ap (option_and_then (λ (entry : ConnEntry). entry.since)) (Updates-with_value between.conns key (idle_since (Some since) now) (ap is_some found)).changed in
    seen_set (λ (m : BTreeMap ℕ ℕ). m.entries) (λ (entries : List (ℕ × ℕ)). insert_entry nat_cmp entries since key) items now.client c.in-Some-get_mut.idle.now c.insert.new.self [] within c.in-Some-get_mut.ensures.value (on_ok c.insert.result (sym c.is_ok.ensures.value ∙ c.if-is_ok.true) c.insert.ensures.entries)
    ∙ (idle_noted old key since now.client was.0 (idle_lists between) c.set_busy.ensures.idle was.1 was.2
    ∙ ap (λ (at : Option ℕ). idle_with key at old) (sym noted))

pub returns-else-is_ok-clause-idle : goal.returns-else-is_ok-clause-idle
returns-else-is_ok-clause-idle c =
    let old = c.args.self.now in
    let between = c.set_busy.new.self in
    let key = c.args.key in
    let now = c.in-Some.entry.now in
    let items = between.idle.items in
    let found : get between.conns key ≡ Some now = sym c.in-Some.ensures.value in
    let was = was_there (get old.conns key) now (c.in-Some.ensures.value ∙ c.set_busy.ensures.conns.changed) in
    let within : now.client < length items = grind (arith, common_steps) in
    let noted = ap (option_and_then (λ (entry : ConnEntry). entry.since)) (Updates-with_value between.conns key now (ap is_some found)).changed ∙ was.3 in
    seen_set_same (λ (m : BTreeMap ℕ ℕ). m.entries) items now.client c.in-Some-get_mut.idle.now c.insert.new.self [] within c.in-Some-get_mut.ensures.value (on_err c.insert.result (sym c.is_ok.ensures.value ∙ c.if-is_ok.false) c.insert.ensures.err)
    ∙ (c.set_busy.ensures.idle ∙ ap (λ (at : Option ℕ). idle_with key at old) (sym noted))
