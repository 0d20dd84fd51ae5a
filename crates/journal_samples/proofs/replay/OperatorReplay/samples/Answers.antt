use Rattle.std.proofs.Common.{rules, ◌≡◌, ◌+◌, ◌-◌, Some, true, length, map, take, drop, sym, ap, ◌∙◌, arith}
use Rattle.std.proofs.lemmas.List.{drop-drop, drop-map, drop_all, length-drop, take_all}
use Rattle.journal_entry.specs.Entries.{entry_of}
use Rattle.journal_folder.specs.Choosing.{in_time}
use Rattle.journal_samples.specs.Held.{standing_of}
use Rattle.journal_samples.specs.Samples.{ascends}
use Rattle.journal_samples.specs.Standing.{after_entries}
use Rattle.journal_samples.proofs.Along.{all_along, drop_more, one_along}
use Rattle.journal_samples.proofs.replay.OperatorReplay.samples.Goals as goal

pub overflow_add-done : goal.overflow_add-done
overflow_add-done c = omega (arith, c.in_ok-count.ensures.within, length-drop c.loop-at.done c.args.entries.now, c.loop-at.invariant.within)

pub loop-at-preserved : goal.loop-at-preserved
loop-at-preserved c =
    let l = c.loop-at in
    let at = c.at-item.result in
    let count = c.in_ok-count.count in
    let entries = c.args.entries.now in
    let moments = c.args.moments.now in
    let rest : take (length entries - l.done) (drop l.done entries) ≡ drop l.done entries = take_all (length entries - l.done) (drop l.done entries) (omega (arith, length-drop l.done entries)) in
    record {
      within = omega (arith, c.in_ok-count.ensures.within, length-drop l.done entries, l.invariant.within);
      told = one_along (standing_of l.self.standing) (standing_of c.advance.new.self.standing) (map entry_of (drop l.done entries)) (map entry_of (drop (l.done + count) entries)) at count (drop l.at-index moments) (drop (l.at-index + 1) moments) l.found.items c.push_samples.new.found.items _
          (drop_more moments l.at-index at c.loop-at-test.true c.at-item.is)
          (c.in_ok-count.ensures.count ∙ ap (λ es. length (in_time (Some at) (map entry_of es))) rest)
          (c.in_ok-count.ensures.standing ∙ ap (λ es. after_entries (standing_of l.self.standing) (in_time (Some at) (map entry_of es))) rest)
          (ap (map entry_of) (sym (drop-drop count l.done entries)) ∙ sym (drop-map entry_of count (drop l.done entries)))
          c.in_ok-push_samples.ensures
          l.invariant.told;
    }

pub returns : goal.returns
returns c =
    let l = c.loop-at in
    let entries = c.args.entries.now in
    let moments = c.args.moments.now in
    let up : ascends 0 moments ≡ true = search rules in
    all_along (standing_of c.args.self.now.standing) (standing_of l.self.standing) (map entry_of entries) (map entry_of (drop l.done entries)) moments (drop l.at-index moments) l.found.items up
    (drop_all l.at-index moments c.loop-at-test.false) l.invariant.told
