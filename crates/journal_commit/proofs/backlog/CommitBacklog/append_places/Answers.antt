use Rattle.std.proofs.Common.{◌≡◌, ◌++◌, length, map, sym, ◌∙◌}
use Rattle.std.specs.Vec.Iter.{into_iter_items}
use Rattle.journal_commit.specs.Durable.{chosen}
use Rattle.journal_commit.proofs.Choosing.{chosen_over}
use Rattle.journal_commit.proofs.backlog.CommitBacklog.append_places.Goals as goal

pub returns-then-is_settled-clause-appended : goal.returns-then-is_settled-clause-appended
returns-then-is_settled-clause-appended g c =
    let left = into_iter_items c.loop-text.text-iterator in
    let none : length left ≡ 0 = sym c.loop-text.text-iterator.rest.ok.0 ∙ c.in-None.ensures.steps.0 in
    let all = c.args.self.now.queue.appended ++ chosen c.args.kept.now (map (λ v. v.items) c.args.places.texts.items) in
    c.all.ensures
    ∙ chosen_over (λ v. v.items) c.loop-text.rest.now left c.loop-text.self.queue.appended all none
    (c.loop-text.invariant.settled c.if-is_settled.true)
