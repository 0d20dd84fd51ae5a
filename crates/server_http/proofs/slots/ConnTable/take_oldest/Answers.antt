use Rattle.std.proofs.Common.{◌≡◌, ◌<◌, ◌≤◌, ◌∙◌, sym, ap, length, drop, [], ℕ, arith}
use Rattle.std.proofs.lemmas.Grind.{common_steps}
use Rattle.std.specs.BTreeMap.{BTreeMap}
use Rattle.server_http.specs.Slots.{first_key}
use Rattle.server_http.proofs.SlotsLemmas.{seen_at, seen_past, seen_set, seen_set_past, empty_list}
use Rattle.server_http.proofs.slots.ConnTable.take_oldest.Goals as goal

pub returns-in_default-clause-oldest : goal.returns-in_default-clause-oldest
returns-in_default-clause-oldest c =
    let items = c.args.self.now.idle.items in
    let past : length items ≤ c.args.client = grind (arith, common_steps) in
    ap first_key (sym (seen_past (λ (m : BTreeMap ℕ ℕ). m.entries) items c.args.client [] past))

pub returns-in_default-clause-idle : goal.returns-in_default-clause-idle
returns-in_default-clause-idle c =
    let items = c.args.self.now.idle.items in
    let past : length items ≤ c.args.client = grind (arith, common_steps) in
    seen_set_past (λ (m : BTreeMap ℕ ℕ). m.entries) items c.args.client _ past

pub returns-in_default-pop_first-clause-oldest : goal.returns-in_default-pop_first-clause-oldest
returns-in_default-pop_first-clause-oldest c =
    let items = c.args.self.now.idle.items in
    let within : c.args.client < length items = grind (arith, common_steps) in
    let m = c.in-Some.idle.now in
    let empty : m.entries ≡ [] = empty_list m.entries c.in_default-pop_first.ensures.variant.1 in
    ap first_key (sym (seen_at (λ (m : BTreeMap ℕ ℕ). m.entries) items c.args.client m [] within c.in-Some.ensures.value ∙ empty))

pub returns-in_default-pop_first-clause-idle : goal.returns-in_default-pop_first-clause-idle
returns-in_default-pop_first-clause-idle c =
    let items = c.args.self.now.idle.items in
    let within : c.args.client < length items = grind (arith, common_steps) in
    let m = c.in-Some.idle.now in
    let empty : m.entries ≡ [] = empty_list m.entries c.in_default-pop_first.ensures.variant.1 in
    seen_set (λ (m : BTreeMap ℕ ℕ). m.entries) (drop 1) items c.args.client m c.pop_first.new.self [] within c.in-Some.ensures.value (c.in_default-pop_first.ensures.unchanged ∙ (empty ∙ ap (drop 1) (sym empty)))

pub returns-clause-oldest : goal.returns-clause-oldest
returns-clause-oldest c =
    let items = c.args.self.now.idle.items in
    let within : c.args.client < length items = grind (arith, common_steps) in
    let m = c.in-Some.idle.now in
    ap first_key (sym (seen_at (λ (m : BTreeMap ℕ ℕ). m.entries) items c.args.client m [] within c.in-Some.ensures.value ∙ c.in-Some-pop_first.ensures.removal))

pub returns-clause-idle : goal.returns-clause-idle
returns-clause-idle c =
    let items = c.args.self.now.idle.items in
    let within : c.args.client < length items = grind (arith, common_steps) in
    let m = c.in-Some.idle.now in
    seen_set (λ (m : BTreeMap ℕ ℕ). m.entries) (drop 1) items c.args.client m c.pop_first.new.self [] within c.in-Some.ensures.value (ap (drop 1) (sym c.in-Some-pop_first.ensures.removal))
